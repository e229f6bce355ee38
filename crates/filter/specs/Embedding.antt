-- When the steps of a filter embed at the last element of a path. A path is the codes of the open elements, the root
-- first; the root has depth 1. `Embeds` is the rule, `embeds` a test of it. Assumes nothing.
use Rattle.std.specs.Prelude.{◌≡◌, ℕ, zero, suc, ◌+◌, ◌<◌, ◌≤◌, Bool, true, false, ◌&&◌, ◌||◌, List, [], ◌∷◌, ◌++◌, length, take, Decides, ◌==◌, slice_index, slice_index_or}
use Rattle.filter.specs.declared.steps.Axis.{Axis}
use Rattle.filter.specs.declared.steps.Axis.TheVariants.{Child, Descendant}
use Rattle.filter.specs.declared.steps.Test.{Test}
use Rattle.filter.specs.declared.steps.Test.TheVariants.{Any, Code}
use Rattle.filter.specs.declared.steps.Step.{Step}

-- the code fits the test
abbrev pub Fits : Test → ℕ → Type 0
Fits Any c = Unit {0}
Fits (Code x) c = c ≡ x

-- a step at depth d under one at depth a
abbrev pub Deeper : Axis → ℕ → ℕ → Type 0
Deeper Child a d = d ≡ a + 1
Deeper Descendant a d = a < d

-- the code of the element at a depth; the root has depth 1
abbrev pub code_at : List ℕ → ℕ → ℕ
code_at path zero = 0
code_at path (suc e) = slice_index path e

-- the steps stand at the depths of the list, under the depth `above`, and the last at the path's last element
abbrev pub Placed : ℕ → List Step → List ℕ → List ℕ → Type 0
Placed above [] path [] = above ≡ length path
Placed above [] path (d ∷ ds) = ⊥
Placed above (s ∷ ss) path [] = ⊥
Placed above (s ∷ ss) path (d ∷ ds) = Deeper s.axis above d × (d ≤ length path) × Fits s.test (code_at path d) × Placed d ss path ds

-- the steps can be given depths so
abbrev pub Embeds : List Step → List ℕ → Type 0
Embeds steps path = ∥ ((ds : List ℕ) × Placed 0 steps path ds) ∥₁

-- The same by a table: the first k steps embed at the element of depth e.

-- the code fits the test
abbrev pub fits : Test → ℕ → Bool
fits Any c = true
fits (Code x) c = c == x

-- the test holds of a number up to e
abbrev pub any_to : (ℕ → Bool) → ℕ → Bool
any_to f zero = f zero
any_to f (suc e) = f (suc e) || any_to f e

-- what the axis asks for: the step before at the parent, or at some ancestor
abbrev pub pick : Axis → Bool → Bool → Bool
pick Child parent ancestor = parent
pick Descendant parent ancestor = ancestor

-- f holds where the axis asks for it, of a step at depth e + 1
abbrev pub linked : Axis → (ℕ → Bool) → ℕ → Bool
linked x f e = pick x (f e) (any_to f e)

-- a step past the end, never looked at
abbrev pub blank : Step
blank = record { axis = Child; test = Any }

-- the first k steps embed at the element of depth e; no steps at all embed at depth 0 alone, above the root
abbrev pub reaches : List Step → List ℕ → ℕ → ℕ → Bool
reaches ss path zero e = e == 0
reaches ss path (suc k) zero = false
reaches ss path (suc k) (suc e) = fits (slice_index_or ss k blank).test (slice_index path e) && linked (slice_index_or ss k blank).axis (reaches ss path k) e

-- all the steps embed at the last element of the path
abbrev pub embeds : List Step → List ℕ → Bool
embeds ss path = reaches ss path (length ss) (length path)

-- the test decides the rule
abbrev pub Rule : Type 0
Rule = (ss : List Step) (path : List ℕ) → Decides (embeds ss path) (Embeds ss path)

-- the steps embed at some non-empty front of the path; no steps at all embed above the root, so always
abbrev pub Above : List Step → List ℕ → Type 0
Above [] path = Unit {0}
Above (t ∷ ts) path = ∥ ((e : ℕ) × (1 ≤ e) × (e ≤ length path) × Embeds (t ∷ ts) (take e path)) ∥₁

-- what the axis of a further step asks of the steps before it
abbrev pub Before : Axis → List Step → List ℕ → Type 0
Before Child ss path = Embeds ss path
Before Descendant ss path = Above ss path

-- with one more step and one more open element
abbrev pub OneMoreStep : Type 0
OneMoreStep = (ss : List Step) (s : Step) (path : List ℕ) (c : ℕ) →
    (Embeds (ss ++ s ∷ []) (path ++ c ∷ []) → Fits s.test c × Before s.axis ss path)
    × (Fits s.test c × Before s.axis ss path → Embeds (ss ++ s ∷ []) (path ++ c ∷ []))
