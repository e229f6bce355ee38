use Rattle.std.proofs.Common.{◌≡◌, ◌+◌, ◌-◌, [], length}
use Rattle.vocabulary.specs.Readings.{names_of}
use Rattle.rows.specs.Rows.{items_of}
use Rattle.filter_text.specs.Reads.{read_from}
use Rattle.filter_text.proofs.reading.read_row.Given as goal

abbrev pub invariant-loop-rest : goal.invariant-loop-rest
invariant-loop-rest l =
    let bytes = l.rest.0.now in
    let place = l.rest.1.0 in
    (place + length bytes ≡ length l.text)
    × (read_from (names_of l.vocabulary) (8 - length (items_of l.steps)) (items_of l.steps) place bytes ≡ read_from (names_of l.vocabulary) 8 [] 0 l.text)

abbrev pub decreases-loop-rest : goal.decreases-loop-rest
decreases-loop-rest l = length l.rest.0.now
