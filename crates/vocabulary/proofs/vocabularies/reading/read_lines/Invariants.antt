use Rattle.std.proofs.Common.{◌≡◌, ◌-◌, ◌≤◌, [], length, drop}
use Rattle.vocabulary.specs.Tables.{names_in}
use Rattle.vocabulary.specs.Vocabularies.{read_lines}
use Rattle.vocabulary.proofs.vocabularies.reading.read_lines.Given as goal

abbrev pub invariant-loop-rest : goal.invariant-loop-rest
invariant-loop-rest l = (l.table.text.now ≡ l.text) × (l.rest ≡ drop (length l.text - length l.rest) l.text) × (length l.rest ≤ length l.text) × (read_lines (names_in l.table) (length l.text - length l.rest) [] l.rest ≡ read_lines [] 0 [] l.text)

abbrev pub decreases-loop-rest : goal.decreases-loop-rest
decreases-loop-rest l = length l.rest
