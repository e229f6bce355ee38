use Rattle.std.proofs.Common.{◌≡◌, ◌+◌, ◌++◌, length, take, drop, None}
use Rattle.vocabulary.specs.Readings.{names_of}
use Rattle.filter_text.specs.Texts.{text_of, unknown_from}
use Rattle.filter_text.proofs.writing.put_steps.Given as goal

abbrev pub invariant-loop-step : goal.invariant-loop-step
invariant-loop-step l =
    (unknown_from (names_of l.vocabulary) (l.step-index + 1) (drop l.step-index l.steps) ≡ None)
    × (l.place + length (text_of (names_of l.vocabulary) (drop l.step-index l.steps)) ≡ length (text_of (names_of l.vocabulary) l.steps))
    × (take l.place l.buffer ++ text_of (names_of l.vocabulary) (drop l.step-index l.steps) ≡ text_of (names_of l.vocabulary) l.steps)
