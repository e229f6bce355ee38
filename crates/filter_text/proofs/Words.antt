-- The texts of tests, and the names of a vocabulary as the words of filter text. Assumes nothing.
use Rattle.std.proofs.Common.{◌≡◌, ℕ, ◌+◌, ◌*◌, ◌≤◌, Bool, true, false, cond, eqb, leb, List, [], ◌∷◌, length, is_some, Some, None, Option, unwrap_or, sym, refl, ap, ◌∙◌, subst, arith, length-append}
use Rattle.std.proofs.lemmas.Option.{slice_get-get_or}
use Rattle.std.proofs.lemmas.Bool.{and_parts, and_from, cond-true, eqb-true, leb-true, le-leb, false≢true}
use Rattle.std.specs.List.{AllByRecursion as All}
use Rattle.vocabulary.specs.Limits.{most_names, most_name_bytes}
use Rattle.vocabulary.specs.Names.{between, name_size, is_short_name, name_of, code_of, IsCode}
use Rattle.vocabulary.specs.Vocabularies.{EachName, NoTwo}
use Rattle.vocabulary.proofs.Codes.{code_found, is_code, name_some}
use Rattle.filter.specs.declared.steps.Axis.{Axis}
use Rattle.filter.specs.declared.steps.Axis.TheVariants.{Child, Descendant}
use Rattle.filter.specs.declared.steps.Test.{Test}
use Rattle.filter.specs.declared.steps.Test.TheVariants.{Any, Code}
use Rattle.filter.specs.declared.steps.Step.{Step}
use Rattle.filter.specs.Filters.{is_test, are_tests}
use Rattle.filter_text.specs.Texts.{slashes, test_text, step_text, text_of, unknown_from}

abbrev Names : Type 0
Names = List (List ℕ)

-- every code is in the vocabulary
abbrev pub Known : Names → List Step → Type 0
Known names ss = All (λ s. is_some (test_text names s.test) ≡ true) ss

pub known_none : (names : Names) (k : ℕ) (ss : List Step) → Known names ss → unknown_from names k ss ≡ None
known_none names k [] h = refl
known_none names k (s ∷ ss) h = cond-true _ _ _ h.0 ∙ known_none names (k + 1) ss h.1

none_by : (names : Names) (k : ℕ) (b : Bool) (ss : List Step) → (unknown_from names (k + 1) ss ≡ None → Known names ss) → cond b (unknown_from names (k + 1) ss) (Some k) ≡ None → (b ≡ true) × Known names ss
none_by names k true ss back e = (refl, back e)
none_by names k false ss back e = let z : ◌≡◌ {A = ℕ} 0 1 = cc in absurd (omega arith)

pub none_known : (names : Names) (k : ℕ) (ss : List Step) → unknown_from names k ss ≡ None → Known names ss
none_known names k [] e = tt
none_known names k (s ∷ ss) e = none_by names k (is_some (test_text names s.test)) ss (none_known names (k + 1) ss) e

pub some_is : {X : Type 0} (o : Option X) → is_some o ≡ true → (x : X) × (o ≡ Some x)
some_is None e = absurd (false≢true e)
some_is (Some x) e = (x, refl)

pub record IsWord (w : List ℕ) : Type 0 where
  pub some : 1 ≤ length w
  pub few : length w ≤ most_name_bytes
  pub whole : name_size w ≡ length w

module _ (names : Names) where
  -- the name of a code
  pub name_word : EachName names → (c : ℕ) (w : List ℕ) → name_of names c ≡ Some w → IsWord w
  name_word each c w e =
      let t = name_some names c w e in
      let short : is_short_name w ≡ true = ap is_short_name (sym t.3) ∙ each t.0 t.2 in
      let p = and_parts (between 1 most_name_bytes (length w)) (eqb (name_size w) (length w)) short in
      let q = and_parts (leb 1 (length w)) (leb (length w) most_name_bytes) p.0 in
      record { some = leb-true _ _ q.0; few = leb-true _ _ q.1; whole = eqb-true _ _ p.1 }

  code_by : (c : ℕ) (w : List ℕ) → name_of names c ≡ Some w → (r : Option ℕ) → IsCode names w r → r ≡ Some c
  code_by c w e None h = absurd (h c e)
  code_by c w e (Some k) h = ap (λ x. Some x) (sym (h.1 c e))

  pub name_code : NoTwo names → (c : ℕ) (w : List ℕ) → name_of names c ≡ Some w → code_of names w ≡ Some c
  name_code once c w e = code_by c w e (code_of names w) (is_code names once w (code_of names w) refl)

  pub code_name : (c : ℕ) (w : List ℕ) → code_of names w ≡ Some c → name_of names c ≡ Some w
  code_name c w e = let t = code_found names w (length names) c e in ap (name_of names) t.1 ∙ slice_get-get_or names t.0 [] t.2 ∙ ap (λ x. Some x) t.3

  -- a code of the vocabulary is one that a filter may hold
  test_known : length names ≤ most_names → (t : Test) → is_some (test_text names t) ≡ true → is_test t ≡ true
  test_known few Any h = refl
  test_known few (Code c) h =
      let s = some_is (name_of names c) h in
      let t = name_some names c s.0 s.1 in
      let one = t.1 in
      let low = t.2 in
      and_from _ _ (le-leb 1 c (omega arith)) (le-leb c most_names (omega arith))

  pub known_tests : length names ≤ most_names → (ss : List Step) → Known names ss → are_tests ss ≡ true
  known_tests few [] h = refl
  known_tests few (s ∷ ss) h = and_from _ _ (test_known few s.test h.0) (known_tests few ss h.1)

  test_size : EachName names → (t : Test) → is_some (test_text names t) ≡ true → length (unwrap_or (test_text names t) []) ≤ most_name_bytes
  test_size each Any h = omega arith
  test_size each (Code c) h =
      let s = some_is (name_of names c) h in
      subst (λ o. length (unwrap_or o []) ≤ most_name_bytes) (sym s.1) (name_word each c s.0 s.1).few

  pub slashes_size : (a : Axis) → (1 ≤ length (slashes a)) × (length (slashes a) ≤ 2)
  slashes_size Child = (omega arith, omega arith)
  slashes_size Descendant = (omega arith, omega arith)

  pub step_size : EachName names → (s : Step) → is_some (test_text names s.test) ≡ true → (1 ≤ length (step_text names s)) × (length (step_text names s) ≤ 34)
  step_size each s h =
      let l = length-append (slashes s.axis) (unwrap_or (test_text names s.test) []) in
      let a = (slashes_size s.axis).0 in
      let b = (slashes_size s.axis).1 in
      let t = test_size each s.test h in
      (omega arith, omega arith)

  pub text_size : EachName names → (ss : List Step) → Known names ss → (length ss ≤ length (text_of names ss)) × (length (text_of names ss) ≤ 34 * length ss)
  text_size each [] h = (omega arith, omega arith)
  text_size each (s ∷ ss) h =
      let l = length-append (step_text names s) (text_of names ss) in
      let one = step_size each s h.0 in
      let low = one.0 in
      let high = one.1 in
      let rest = text_size each ss h.1 in
      let lows = rest.0 in
      let highs = rest.1 in
      (omega arith, omega arith)
