-- What asking a source whether a filter hits its message answers. Assumes nothing.
use Rattle.std.specs.Prelude.{ℕ, Bool, cond, List, [], length, Ok, Err, Result, ◌==◌}
use Rattle.vocabulary.specs.declared.faults.Fault.{Fault}
use Rattle.vocabulary.specs.declared.faults.Question.TheVariants.{SourceNotFresh}
use Rattle.vocabulary.specs.Faults.{fault}
use Rattle.filter.specs.declared.steps.Step.{Step}
use Rattle.message.specs.declared.events.Event.{Event}
use Rattle.message.specs.Sources.{Ending, closed, faulted}
use Rattle.message.specs.Elements.{hits}

-- a message that ends with a fault has that answer
abbrev pub at_ending : Ending → Bool → Result Bool Fault
at_ending closed b = Ok b
at_ending (faulted f) b = Err f

-- a source that was read from before is refused
abbrev pub hit_answer : List Step → ℕ → List Event → Ending → Result Bool Fault
hit_answer ss taken es e = cond (taken == 0) (at_ending e (hits ss es)) (Err (fault SourceNotFresh 0))

-- a fresh source is read to its ending, any other is left as it is
abbrev pub left_after : ℕ → List Event → List Event
left_after taken es = cond (taken == 0) [] es

abbrev pub taken_after : ℕ → List Event → ℕ
taken_after taken es = cond (taken == 0) (length es) taken
