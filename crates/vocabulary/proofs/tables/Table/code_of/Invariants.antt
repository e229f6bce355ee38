use Rattle.std.specs.Option.{unwrap_or}
use Rattle.vocabulary.specs.Tables.{names_in}
use Rattle.vocabulary.proofs.Buckets.{Looking}
use Rattle.vocabulary.proofs.tables.Table.code_of.Given as goal

abbrev pub invariant-loop-next : goal.invariant-loop-next
invariant-loop-next l = Looking (names_in l.self) l.name l.next

abbrev pub decreases-loop-next : goal.decreases-loop-next
decreases-loop-next l = unwrap_or l.next 0
