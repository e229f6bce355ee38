-- What is looked for stands where it stands in what is left. Assumes nothing.
use Rattle.std.proofs.Common.{◌≡◌, drop}
use Rattle.markup.specs.Runs.{first_from, mark_bytes}
use Rattle.markup.proofs.texts.Mark.first_in.Given as goal

abbrev pub invariant-loop-n : goal.invariant-loop-n
invariant-loop-n l = first_from (mark_bytes l.fn.self) l.n (drop l.n l.rest) ≡ first_from (mark_bytes l.fn.self) 0 l.rest
