use Rattle.std.proofs.Common.{◌≡◌, ◌*◌, ◌≤◌, drop}
use Rattle.vocabulary.specs.Entries.{weighed}
use Rattle.vocabulary.proofs.tables.bucket_of.Given as goal

abbrev pub invariant-loop-i : goal.invariant-loop-i
invariant-loop-i l = (l.sum ≤ 8160 * l.i) × (weighed l.sum l.i (drop l.i l.name) ≡ weighed 0 0 l.name)
