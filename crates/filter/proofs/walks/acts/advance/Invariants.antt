use Rattle.filter.proofs.Turns.{Turned}
use Rattle.filter.proofs.walks.acts.advance.Given as goal

abbrev pub invariant-loop-k : goal.invariant-loop-k
invariant-loop-k l = Turned l.steps l.path l.code l.masks l.behind l.above l.hit l.k
