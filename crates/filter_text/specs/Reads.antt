-- Reading filter text, step by step, with places. Assumes nothing.
use Rattle.std.specs.Prelude.{◌≡◌, ℕ, zero, suc, ◌+◌, ◌-◌, cond, List, [], ◌∷◌, ◌++◌, length, take, drop, Some, None, Ok, Err, Option, Result, ◌==◌, nat_lt}
use Rattle.vocabulary.specs.declared.faults.Fault.{Fault}
use Rattle.vocabulary.specs.declared.faults.Question.TheVariants.{FilterSize, TooManySteps, StepNoSlash, StepNoTest, StepNameLong, StepNameUnknown}
use Rattle.vocabulary.specs.Faults.{fault}
use Rattle.vocabulary.specs.Limits.{most_name_bytes, most_steps}
use Rattle.vocabulary.specs.Names.{between, name_size, code_of}
use Rattle.vocabulary.specs.Vocabularies.{chain, EachName, NoTwo}
use Rattle.filter.specs.declared.steps.Axis.{Axis}
use Rattle.filter.specs.declared.steps.Axis.TheVariants.{Child, Descendant}
use Rattle.filter.specs.declared.steps.Test.{Test}
use Rattle.filter.specs.declared.steps.Test.TheVariants.{Any, Code}
use Rattle.filter.specs.declared.steps.Step.{Step}
use Rattle.filter_text.specs.Texts.{slash, star, IsText}

-- the bytes of a filter's text at most
abbrev pub most_text : ℕ
most_text = 272

-- after a slash: a second one makes the axis Descendant
abbrev pub after_slash : List ℕ → Axis × List ℕ
after_slash [] = (Child, [])
after_slash (b ∷ s) = cond (b == slash) (Descendant, s) (Child, b ∷ s)

-- the axis at the front, and what comes after it
abbrev pub axis_of : List ℕ → Option (Axis × List ℕ)
axis_of [] = None
axis_of (b ∷ s) = cond (b == slash) (Some (after_slash s)) None

-- what a look-up of the name at the place n gives, and what comes after it
abbrev pub coded : Option ℕ → ℕ → List ℕ → Result (Test × List ℕ) Fault
coded None n s = Err (fault StepNameUnknown n)
coded (Some c) n s = Ok (Code c, s)

-- a name of k bytes at the front of s, which stands at the place n
abbrev pub named : List (List ℕ) → ℕ → List ℕ → ℕ → Result (Test × List ℕ) Fault
named names n s k = cond (k == 0) (Err (fault StepNoTest n)) (cond (nat_lt most_name_bytes k) (Err (fault StepNameLong n)) (coded (code_of names (take k s)) n (drop k s)))

-- the test at the front of s, which stands at the place n, and what comes after it
abbrev pub test_of : List (List ℕ) → ℕ → List ℕ → Result (Test × List ℕ) Fault
test_of names n [] = Err (fault StepNoTest n)
test_of names n (b ∷ s) = cond (b == star) (Ok (Any, s)) (named names n (b ∷ s) (name_size (b ∷ s)))

abbrev pub with_axis : Axis → Result (Test × List ℕ) Fault → Result (Step × List ℕ) Fault
with_axis a (Ok y) = Ok (record { axis = a; test = y.0 }, y.1)
with_axis a (Err f) = Err f

abbrev pub stepped : List (List ℕ) → ℕ → List ℕ → Option (Axis × List ℕ) → Result (Step × List ℕ) Fault
stepped names n s None = Err (fault StepNoSlash n)
stepped names n s (Some x) = with_axis x.0 (test_of names (n + (length s - length x.1)) x.1)

-- the step at the front of s, which stands at the place n, and what comes after it
abbrev pub step_of : List (List ℕ) → ℕ → List ℕ → Result (Step × List ℕ) Fault
step_of names n s = stepped names n s (axis_of s)

-- the steps so far and those of s, which stands at the place n, where k more may come; or the first fault
abbrev pub read_from : List (List ℕ) → ℕ → List Step → ℕ → List ℕ → Result (List Step) Fault
read_from names zero acc n [] = Ok acc
read_from names zero acc n (b ∷ s) = Err (fault TooManySteps n)
read_from names (suc k) acc n [] = Ok acc
read_from names (suc k) acc n (b ∷ s) =
    chain (step_of names n (b ∷ s)) (λ y. read_from names k (acc ++ y.0 ∷ []) (n + (length (b ∷ s) - length y.1)) y.1)

-- the steps of a filter's text, or the first fault
abbrev pub read_steps : List (List ℕ) → List ℕ → Result (List Step) Fault
read_steps names text = cond (between 1 most_text (length text)) (read_from names most_steps [] 0 text) (Err (fault FilterSize 0))

-- exactly the texts of filters are accepted, with their steps
abbrev pub Reading : Type 0
Reading = (names : List (List ℕ)) → EachName names → NoTwo names → (text : List ℕ) (ss : List Step) →
    (read_steps names text ≡ Ok ss → IsText names text ss) × (IsText names text ss → read_steps names text ≡ Ok ss)
