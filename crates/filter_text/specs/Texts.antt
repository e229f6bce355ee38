-- The text of a filter by a vocabulary, given by its names: its steps in a row, each with one slash or two and then
-- `*` or a name. Assumes nothing.
use Rattle.std.specs.Prelude.{◌≡◌, ℕ, ◌+◌, ◌≤◌, cond, List, [], ◌∷◌, ◌++◌, length, is_some, Some, None, Option}
use Rattle.std.specs.List.{flat_map}
use Rattle.std.specs.Option.{unwrap_or}
use Rattle.vocabulary.specs.Limits.{most_steps}
use Rattle.vocabulary.specs.Names.{name_of}
use Rattle.filter.specs.declared.steps.Axis.{Axis}
use Rattle.filter.specs.declared.steps.Axis.TheVariants.{Child, Descendant}
use Rattle.filter.specs.declared.steps.Test.{Test}
use Rattle.filter.specs.declared.steps.Test.TheVariants.{Any, Code}
use Rattle.filter.specs.declared.steps.Step.{Step}

-- the bytes `/` and `*`
abbrev pub slash : ℕ
slash = 47

abbrev pub star : ℕ
star = 42

abbrev pub slashes : Axis → List ℕ
slashes Child = slash ∷ []
slashes Descendant = slash ∷ slash ∷ []

-- the text of a test; none where its code is not in the vocabulary
abbrev pub test_text : List (List ℕ) → Test → Option (List ℕ)
test_text names Any = Some (star ∷ [])
test_text names (Code c) = name_of names c

abbrev pub step_text : List (List ℕ) → Step → List ℕ
step_text names s = slashes s.axis ++ unwrap_or (test_text names s.test) []

abbrev pub text_of : List (List ℕ) → List Step → List ℕ
text_of names ss = flat_map (step_text names) ss

-- the number of the first step whose code is not in the vocabulary, where the first step has the number k
abbrev pub unknown_from : List (List ℕ) → ℕ → List Step → Option ℕ
unknown_from names k [] = None
unknown_from names k (s ∷ ss) = cond (is_some (test_text names s.test)) (unknown_from names (k + 1) ss) (Some k)

-- the text is that of these steps: one to eight, with codes of the vocabulary
pub record IsText (names : List (List ℕ)) (text : List ℕ) (ss : List Step) : Type 0 where
  pub some : 1 ≤ length ss
  pub few : length ss ≤ most_steps
  pub known : unknown_from names 1 ss ≡ None
  pub same : text ≡ text_of names ss
