use Rattle.std.proofs.Common.{arith}
use Rattle.rows.proofs.Items.{items_few}
use Rattle.filter.proofs.Opens.{columns_pop}
use Rattle.filter.proofs.walks.Walk.end.Goals as goal

pub invariant_of-self-clause-kept : goal.invariant_of-self-clause-kept
invariant_of-self-clause-kept c =
    let w = c.args.self.now in
    columns_pop _ _ w.masks _ _ _ c.pop.ensures.items c.len-depth.ensures.value (omega (arith, items_few w.filter.steps)) w.kept c.retreat.ensures
