-- What is read is the text of the steps. Assumes nothing.
use Rattle.std.proofs.Common.{◌≡◌, ℕ, zero, suc, ◌+◌, ◌-◌, ◌≤◌, Bool, true, false, cond, eqb, ltb, List, [], ◌∷◌, ◌++◌, length, take, drop, is_some, Some, None, Ok, Err, Option, Result, unwrap_or, sym, refl, ap, ◌∙◌, subst, append_assoc, arith}
use Rattle.std.proofs.lemmas.List.{append-nil, take-append-drop}
use Rattle.std.proofs.lemmas.Bool.{eqb-true}
use Rattle.vocabulary.specs.declared.faults.Fault.{Fault}
use Rattle.vocabulary.specs.declared.faults.Question.TheVariants.{StepNoTest, StepNameLong}
use Rattle.vocabulary.specs.Faults.{fault}
use Rattle.vocabulary.specs.Limits.{most_name_bytes}
use Rattle.vocabulary.specs.Names.{name_size, code_of}
use Rattle.vocabulary.specs.Vocabularies.{chain}
use Rattle.filter.specs.declared.steps.Axis.{Axis}
use Rattle.filter.specs.declared.steps.Axis.TheVariants.{Child, Descendant}
use Rattle.filter.specs.declared.steps.Test.{Test}
use Rattle.filter.specs.declared.steps.Test.TheVariants.{Any, Code}
use Rattle.filter.specs.declared.steps.Step.{Step}
use Rattle.filter_text.specs.Texts.{slash, star, slashes, test_text, step_text, text_of}
use Rattle.filter_text.specs.Reads.{after_slash, axis_of, coded, named, test_of, with_axis, stepped, step_of, read_from}
use Rattle.filter_text.proofs.Words.{Known, code_name}

abbrev Names : Type 0
Names = List (List ℕ)

never : {X A : Type 0} (f : Fault) (a : A) → ◌≡◌ {A = Result A Fault} (Err f) (Ok a) → X
never f a e = let z : ◌≡◌ {A = ℕ} 0 1 = cc in absurd (omega arith)

abbrev AxisForth : List ℕ → Axis × List ℕ → Type 0
AxisForth s x = s ≡ slashes x.0 ++ x.1

after_by : (b : ℕ) (s : List ℕ) (t : Bool) (x : Axis × List ℕ) → eqb b slash ≡ t → ◌≡◌ {A = Axis × List ℕ} (cond t (Descendant, s) (Child, b ∷ s)) x → AxisForth (slash ∷ (b ∷ s)) x
after_by b s true x e h = subst (AxisForth (slash ∷ (b ∷ s))) h (ap (λ c. slash ∷ (c ∷ s)) (eqb-true b slash e))
after_by b s false x e h = subst (AxisForth (slash ∷ (b ∷ s))) h refl

after_forth : (s : List ℕ) (x : Axis × List ℕ) → after_slash s ≡ x → AxisForth (slash ∷ s) x
after_forth [] x h = subst (AxisForth (slash ∷ [])) h refl
after_forth (b ∷ s) x h = after_by b s (eqb b slash) x refl h

axis_by : (b : ℕ) (s : List ℕ) (t : Bool) (x : Axis × List ℕ) → eqb b slash ≡ t → ◌≡◌ {A = Option (Axis × List ℕ)} (cond t (Some (after_slash s)) None) (Some x) → AxisForth (b ∷ s) x
axis_by b s true x e h = let y : after_slash s ≡ x = cc in ap (λ c. c ∷ s) (eqb-true b slash e) ∙ after_forth s x y
axis_by b s false x e h = let z : ◌≡◌ {A = ℕ} 0 1 = cc in absurd (omega arith)

axis_forth : (s : List ℕ) (x : Axis × List ℕ) → axis_of s ≡ Some x → AxisForth s x
axis_forth [] x h = let z : ◌≡◌ {A = ℕ} 0 1 = cc in absurd (omega arith)
axis_forth (b ∷ s) x h = axis_by b s (eqb b slash) x refl h

-- a test that was read
abbrev TestForth : Names → List ℕ → Test × List ℕ → Type 0
TestForth names s y = (is_some (test_text names y.0) ≡ true) × (s ≡ unwrap_or (test_text names y.0) [] ++ y.1)

coded_by : (names : Names) (n : ℕ) (w s : List ℕ) (o : Option ℕ) (y : Test × List ℕ) → code_of names w ≡ o → coded o n s ≡ Ok y → TestForth names (w ++ s) y
coded_by names n w s None y e h = never _ y h
coded_by names n w s (Some c) y e h =
    let same : (Code c, s) ≡ y = cc in
    let is = code_name names c w e in
    subst (TestForth names (w ++ s)) same (ap is_some is, ap (λ o. unwrap_or o [] ++ s) (sym is))

named_by : (names : Names) (n : ℕ) (s : List ℕ) (k : ℕ) (a b : Bool) (y : Test × List ℕ) → cond a (Err (fault StepNoTest n)) (cond b (Err (fault StepNameLong n)) (coded (code_of names (take k s)) n (drop k s))) ≡ Ok y → TestForth names s y
named_by names n s k true b y h = never _ y h
named_by names n s k false true y h = never _ y h
named_by names n s k false false y h = subst (λ x. TestForth names x y) (take-append-drop k s) (coded_by names n (take k s) (drop k s) (code_of names (take k s)) y refl h)

test_by : (names : Names) (n : ℕ) (b : ℕ) (s : List ℕ) (t : Bool) (y : Test × List ℕ) → eqb b star ≡ t → cond t (Ok (Any, s)) (named names n (b ∷ s) (name_size (b ∷ s))) ≡ Ok y → TestForth names (b ∷ s) y
test_by names n b s true y e h = let same : (Any, s) ≡ y = cc in subst (TestForth names (b ∷ s)) same (refl, ap (λ c. c ∷ s) (eqb-true b star e))
test_by names n b s false y e h = named_by names n (b ∷ s) (name_size (b ∷ s)) (eqb (name_size (b ∷ s)) 0) (ltb most_name_bytes (name_size (b ∷ s))) y h

test_forth : (names : Names) (n : ℕ) (s : List ℕ) (y : Test × List ℕ) → test_of names n s ≡ Ok y → TestForth names s y
test_forth names n [] y h = never _ y h
test_forth names n (b ∷ s) y h = test_by names n b s (eqb b star) y refl h

-- a step that was read
abbrev StepForth : Names → List ℕ → Step × List ℕ → Type 0
StepForth names s y = (is_some (test_text names y.0.test) ≡ true) × (s ≡ step_text names y.0 ++ y.1)

with_by : (names : Names) (s : List ℕ) (x : Axis × List ℕ) (r : Result (Test × List ℕ) Fault) (y : Step × List ℕ) → s ≡ slashes x.0 ++ x.1 → ((z : Test × List ℕ) → r ≡ Ok z → TestForth names x.1 z) → with_axis x.0 r ≡ Ok y → StepForth names s y
with_by names s x (Ok z) y e back h =
    let same : (record { axis = x.0; test = z.0 }, z.1) ≡ y = cc in
    let t = back z refl in
    subst (StepForth names s) same (t.0, e ∙ ap (λ q. slashes x.0 ++ q) t.1 ∙ sym (append_assoc (slashes x.0) (unwrap_or (test_text names z.0) []) z.1))
with_by names s x (Err f) y e back h = never f y h

step_by : (names : Names) (n : ℕ) (s : List ℕ) (o : Option (Axis × List ℕ)) (y : Step × List ℕ) → axis_of s ≡ o → stepped names n s o ≡ Ok y → StepForth names s y
step_by names n s None y e h = never _ y h
step_by names n s (Some x) y e h = with_by names s x (test_of names (n + (length s - length x.1)) x.1) y (axis_forth s x e) (λ z q. test_forth names _ x.1 z q) h

step_forth : (names : Names) (n : ℕ) (s : List ℕ) (y : Step × List ℕ) → step_of names n s ≡ Ok y → StepForth names s y
step_forth names n s y h = step_by names n s (axis_of s) y refl h

-- the whole
pub record Forth (names : Names) (k : ℕ) (acc : List Step) (s : List ℕ) (out : List Step) : Type 0 where
  pub steps : List Step
  pub all : out ≡ acc ++ steps
  pub few : length steps ≤ k
  pub known : Known names steps
  pub same : s ≡ text_of names steps

nothing : (names : Names) (k : ℕ) (acc out : List Step) → ◌≡◌ {A = Result (List Step) Fault} (Ok acc) (Ok out) → Forth names k acc [] out
nothing names k acc out h = let e : acc ≡ out = cc in record { steps = []; all = sym e ∙ sym (append-nil acc); few = omega arith; known = tt; same = refl }

chain_by : (names : Names) (k : ℕ) (acc : List Step) (n : ℕ) (s : List ℕ) (out : List Step) (r : Result (Step × List ℕ) Fault) → step_of names n s ≡ r → ((y : Step × List ℕ) (m : ℕ) → read_from names k (acc ++ y.0 ∷ []) m y.1 ≡ Ok out → Forth names k (acc ++ y.0 ∷ []) y.1 out) → chain r (λ y. read_from names k (acc ++ y.0 ∷ []) (n + (length s - length y.1)) y.1) ≡ Ok out → Forth names (suc k) acc s out
chain_by names k acc n s out (Ok y) e back h =
    let f = back y _ h in
    let t = step_forth names n s y e in
    let low = f.few in
    record {
      steps = y.0 ∷ f.steps;
      all = f.all ∙ append_assoc acc (y.0 ∷ []) f.steps;
      few = omega arith;
      known = (t.0, f.known);
      same = t.1 ∙ ap (λ q. step_text names y.0 ++ q) f.same;
    }
chain_by names k acc n s out (Err f) e back h = never f out h

pub forth : (names : Names) (k : ℕ) (acc : List Step) (n : ℕ) (s : List ℕ) (out : List Step) → read_from names k acc n s ≡ Ok out → Forth names k acc s out
forth names zero acc n [] out h = nothing names zero acc out h
forth names zero acc n (b ∷ s) out h = never _ out h
forth names (suc k) acc n [] out h = nothing names (suc k) acc out h
forth names (suc k) acc n (b ∷ s) out h = chain_by names k acc n (b ∷ s) out (step_of names n (b ∷ s)) refl (λ y m q. forth names k (acc ++ y.0 ∷ []) m y.1 out q) h
