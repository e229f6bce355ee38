-- The prefixes of a filter: its first step, its first two, and so on to the whole. Two prefixes are the same if all
-- axes and tests agree. Assumes nothing.
use Rattle.std.specs.Prelude.{ℕ, suc, Bool, true, false, cond, ◌&&◌, List, [], ◌∷◌, map, ◌==◌}
use Rattle.std.specs.List.{flat_map, list_any}
use Rattle.filter.specs.declared.steps.Axis.{Axis}
use Rattle.filter.specs.declared.steps.Axis.TheVariants.{Child, Descendant}
use Rattle.filter.specs.declared.steps.Test.{Test}
use Rattle.filter.specs.declared.steps.Test.TheVariants.{Any, Code}
use Rattle.filter.specs.declared.steps.Step.{Step}

abbrev pub prefixes : List Step → List (List Step)
prefixes [] = []
prefixes (s ∷ ss) = (s ∷ []) ∷ map (λ p. s ∷ p) (prefixes ss)

abbrev pub same_axis : Axis → Axis → Bool
same_axis Child Child = true
same_axis Child Descendant = false
same_axis Descendant Child = false
same_axis Descendant Descendant = true

abbrev pub same_test : Test → Test → Bool
same_test Any Any = true
same_test Any (Code y) = false
same_test (Code x) Any = false
same_test (Code x) (Code y) = x == y

abbrev pub same_steps : List Step → List Step → Bool
same_steps [] [] = true
same_steps [] (t ∷ ts) = false
same_steps (s ∷ ss) [] = false
same_steps (s ∷ ss) (t ∷ ts) = (same_axis s.axis t.axis && same_test s.test t.test) && same_steps ss ts

-- how many different lists of steps there are
abbrev pub different : List (List Step) → ℕ
different [] = 0
different (p ∷ ps) = cond (list_any (same_steps p) ps) (different ps) (suc (different ps))

-- how many different prefixes the filters have
abbrev pub prefix_count : List (List Step) → ℕ
prefix_count filters = different (flat_map prefixes filters)
