use Rattle.std.proofs.Common.{arith}
use Rattle.filter.proofs.Turns.{turn_first, turn_clear, turn}
use Rattle.filter.proofs.walks.acts.advance.Goals as goal

pub loop-k-init : goal.loop-k-init
loop-k-init c = turn_first _ _ c.args.code _ c.requires.before

pub marked-requires-clause-clear : goal.marked-requires-clause-clear
marked-requires-clause-clear c = turn_clear _ _ _ _ _ _ _ _ c.loop-k.invariant c.loop-k-test.true

pub loop-k-preserved : goal.loop-k-preserved
loop-k-preserved c = turn _ _ _ _ _ _ _ _ c.loop-k.invariant c.loop-k-test.true (omega arith) _ _ _ c.takes-hit.ensures c.is_newest-behind.ensures c.marked.ensures
