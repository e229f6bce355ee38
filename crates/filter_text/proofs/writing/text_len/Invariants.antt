use Rattle.std.proofs.Common.{◌≡◌, ◌+◌, ◌*◌, ◌≤◌, length, drop}
use Rattle.vocabulary.specs.Readings.{names_of}
use Rattle.filter_text.specs.Texts.{text_of, unknown_from}
use Rattle.filter_text.proofs.writing.text_len.Given as goal

abbrev pub invariant-loop-i : goal.invariant-loop-i
invariant-loop-i l =
    (l.len ≤ 34 * l.i)
    × (unknown_from (names_of l.vocabulary) (l.i + 1) (drop l.i l.steps) ≡ unknown_from (names_of l.vocabulary) 1 l.steps)
    × (l.len + length (text_of (names_of l.vocabulary) (drop l.i l.steps)) ≡ length (text_of (names_of l.vocabulary) l.steps))
