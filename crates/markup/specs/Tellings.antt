-- What the bytes behind a `<` at the place p tell, by how the markup goes on. Assumes nothing.
use Rattle.std.specs.Prelude.{ℕ, ◌+◌, List, [], ◌++◌, take, drop}
use Rattle.vocabulary.specs.declared.faults.Question.TheVariants.{NoMarkup, MarkupNotEnded, ByteMisfit}
use Rattle.vocabulary.specs.Faults.{fault}
use Rattle.message.specs.declared.events.Event.{Event}
use Rattle.message.specs.Sources.{Ending, faulted}
use Rattle.markup.specs.Tags.{name_in, Scan, cut_short, ends, begins_none, misfits}
use Rattle.markup.specs.Readings.{Stand, acted, events_from, ending_from}

-- the events, where acc are the bytes behind the `<` up to the place n, and bs those from there on
abbrev pub events_by : List (List ℕ) → Stand → ℕ → List ℕ → ℕ → List ℕ → Scan → List Event
events_by voc st p acc n bs cut_short = []
events_by voc st p acc n bs (ends k c) =
    (acted voc st p k (name_in k (acc ++ take c bs))).told ++ events_from voc (acted voc st p k (name_in k (acc ++ take c bs))).next (n + c) (drop c bs)
events_by voc st p acc n bs begins_none = []
events_by voc st p acc n bs (misfits c) = []

-- and how they end
abbrev pub ending_by : List (List ℕ) → Stand → ℕ → List ℕ → ℕ → List ℕ → Scan → Ending
ending_by voc st p acc n bs cut_short = faulted (fault MarkupNotEnded p)
ending_by voc st p acc n bs (ends k c) = ending_from voc (acted voc st p k (name_in k (acc ++ take c bs))).next (n + c) (drop c bs)
ending_by voc st p acc n bs begins_none = faulted (fault NoMarkup p)
ending_by voc st p acc n bs (misfits c) = faulted (fault ByteMisfit (n + c))
