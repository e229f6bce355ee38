-- How the bytes that are left go on, with those before. Assumes nothing.
use Rattle.std.proofs.Common.{◌≡◌, drop}
use Rattle.markup.specs.Runs.{shifted, standing}
use Rattle.markup.specs.Tags.{scan_from}
use Rattle.markup.proofs.tags.Tag.read_on.Given as goal

abbrev pub invariant-loop-n : goal.invariant-loop-n
invariant-loop-n l = shifted l.n (scan_from (standing l.tag) (drop l.n l.rest)) ≡ scan_from (standing l.fn.self) l.rest
