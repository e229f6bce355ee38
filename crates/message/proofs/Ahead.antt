-- When the steps of a filter lead down a path, from the first step on; the same as the rule of embeddings. Assumes nothing.
use Rattle.std.proofs.Common.{◌≡◌, ℕ, suc, ◌≤◌, ◌⊎◌, List, [], ◌∷◌, ◌++◌, length, sym, ap, ◌∙◌, subst, inl, inr, ⊎_elim, append-nil, add-one, arith, length-append}
use lib.Seq.{get_or-append_seam, append_snoc}
use Rattle.std.proofs.lemmas.List.{length_push}
use Rattle.std.proofs.lemmas.Bool.{cases_eq}
use Rattle.filter.specs.declared.steps.Axis.{Axis}
use Rattle.filter.specs.declared.steps.Axis.TheVariants.{Child, Descendant}
use Rattle.filter.specs.declared.steps.Test.{Test}
use Rattle.filter.specs.declared.steps.Step.{Step}
use Rattle.filter.specs.Embedding.{Fits, code_at, Embeds}
use Rattle.filter.proofs.Depths.{Reach, rule, embeds_reach, reach_embeds, deeper_lt}

-- a child step has to be taken at once, a descendant step here or further down
abbrev pub Fork : Axis → Type 0 → Type 0 → Type 0
Fork Child here below = here
Fork Descendant here below = here ⊎ below

-- the steps lead down the path, to its last element
abbrev pub Leads : List Step → List ℕ → Type 0
Leads [] [] = Unit {0}
Leads [] (c ∷ path) = ⊥
Leads (s ∷ ss) [] = ⊥
Leads (s ∷ ss) (c ∷ path) = Fork s.axis (Fits s.test c × Leads ss path) (Leads (s ∷ ss) path)

-- the steps lead from the depth that is the length of `front` to the end of the path
Onward : List ℕ → List Step → List ℕ → Type 0
Onward front ss path = Reach (length front) ss (front ++ path) (length (front ++ path))

-- one code moved between the front and the path
one_deeper : (front : List ℕ) (c : ℕ) (ss : List Step) (path : List ℕ) → Onward (front ++ c ∷ []) ss path → Reach (suc (length front)) ss (front ++ c ∷ path) (length (front ++ c ∷ path))
unfolding Onward
one_deeper front c ss path h =
    let e = append_snoc front c path in
    let n = length_push front c ∙ add-one (length front) in
    subst (λ k. Reach k ss (front ++ c ∷ path) (length (front ++ c ∷ path))) n (subst (λ l. Reach (length (front ++ c ∷ [])) ss l (length l)) e h)

from_deeper : (front : List ℕ) (c : ℕ) (ss : List Step) (path : List ℕ) → Reach (suc (length front)) ss (front ++ c ∷ path) (length (front ++ c ∷ path)) → Onward (front ++ c ∷ []) ss path
unfolding Onward
from_deeper front c ss path h =
    let e = append_snoc front c path in
    let n = length_push front c ∙ add-one (length front) in
    subst (λ l. Reach (length (front ++ c ∷ [])) ss l (length l)) (sym e) (subst (λ k. Reach k ss (front ++ c ∷ path) (length (front ++ c ∷ path))) (sym n) h)

code_here : (front : List ℕ) (c : ℕ) (path : List ℕ) → code_at (front ++ c ∷ path) (suc (length front)) ≡ c
code_here front c path = get_or-append_seam front c path 0

room : (front : List ℕ) (c : ℕ) (path : List ℕ) → suc (length front) ≤ length (front ++ c ∷ path)
room front c path = let n = length-append front (c ∷ path) in omega arith

module _ (t : Test) (ss : List Step) (front : List ℕ) (c : ℕ) (path : List ℕ) where
  abbrev step : Axis → Step
  step x = record { axis = x; test = t }

  fork_to : (x : Axis) → (Onward (front ++ c ∷ []) ss path → Leads ss path) → (Onward (front ++ c ∷ []) (step x ∷ ss) path → Leads (step x ∷ ss) path)
      → Onward front (step x ∷ ss) (c ∷ path) → Fork x (Fits t c × Leads ss path) (Leads (step x ∷ ss) path)
  unfolding Onward
  fork_to Child go again r =
      let e : r.0 ≡ suc (length front) = r.1 ∙ add-one (length front) in
      (subst (λ y. Fits t y) (ap (code_at (front ++ c ∷ path)) e ∙ code_here front c path) r.3, go (from_deeper front c ss path (subst (λ k. Reach k ss (front ++ c ∷ path) (length (front ++ c ∷ path))) e r.4)))
  fork_to Descendant go again r =
      ⊎_elim
      (λ e. inl (subst (λ y. Fits t y) (ap (code_at (front ++ c ∷ path)) e ∙ code_here front c path) r.3, go (from_deeper front c ss path (subst (λ k. Reach k ss (front ++ c ∷ path) (length (front ++ c ∷ path))) e r.4))))
      (λ ne. let d = r.1 in inr (again (from_deeper front c (step Descendant ∷ ss) path (r.0, omega arith, r.2, r.3, r.4))))
      (cases_eq r.0 (suc (length front)))

  fork_from : (x : Axis) → (Leads ss path → Onward (front ++ c ∷ []) ss path) → (Leads (step x ∷ ss) path → Onward (front ++ c ∷ []) (step x ∷ ss) path)
      → Fork x (Fits t c × Leads ss path) (Leads (step x ∷ ss) path) → Onward front (step x ∷ ss) (c ∷ path)
  unfolding Onward
  fork_from Child go again f =
      (suc (length front), omega arith, room front c path, subst (λ y. Fits t y) (sym (code_here front c path)) f.0, one_deeper front c ss path (go f.1))
  fork_from Descendant go again f =
      ⊎_elim
      (λ g. (suc (length front), omega arith, room front c path, subst (λ y. Fits t y) (sym (code_here front c path)) g.0, one_deeper front c ss path (go g.1)))
      (λ g. let r = one_deeper front c (step Descendant ∷ ss) path (again g) in let d = r.1 in (r.0, omega arith, r.2, r.3, r.4))
      f

onward_leads : (front : List ℕ) (ss : List Step) (path : List ℕ) → Onward front ss path → Leads ss path
unfolding Onward
onward_leads front [] [] r = tt
onward_leads front [] (c ∷ path) r = let n = length-append front (c ∷ path) in absurd (omega arith)
onward_leads front (s ∷ ss) [] r = let n = length-append front [] in let d = deeper_lt s.axis (length front) r.0 r.1 in let l = r.2 in absurd (omega arith)
onward_leads front (s ∷ ss) (c ∷ path) r = fork_to s.test ss front c path s.axis (onward_leads (front ++ c ∷ []) ss path) (onward_leads (front ++ c ∷ []) (s ∷ ss) path) r

leads_onward : (front : List ℕ) (ss : List Step) (path : List ℕ) → Leads ss path → Onward front ss path
unfolding Onward
leads_onward front [] [] f = ap length (sym (append-nil front))
leads_onward front [] (c ∷ path) f = absurd f
leads_onward front (s ∷ ss) [] f = absurd f
leads_onward front (s ∷ ss) (c ∷ path) f = fork_from s.test ss front c path s.axis (leads_onward (front ++ c ∷ []) ss path) (leads_onward (front ++ c ∷ []) (s ∷ ss) path) f

pub embeds_leads : (ss : List Step) (path : List ℕ) → Embeds ss path → Leads ss path
unfolding Onward
embeds_leads ss path h = onward_leads [] ss path (embeds_reach ss path ((rule ss path).1 h))

pub leads_embeds : (ss : List Step) (path : List ℕ) → Leads ss path → Embeds ss path
unfolding Onward
leads_embeds ss path f = (rule ss path).0 (reach_embeds ss path (leads_onward [] ss path f))
