use Rattle.std.proofs.Common.{arith}
use Rattle.std.proofs.lemmas.Grind.{common_steps}
use Rattle.filter.proofs.Bits.{kept_bits}
use Rattle.filter.proofs.walks.acts.retreat.Goals as goal

pub loop-mask-preserved : goal.loop-mask-preserved
loop-mask-preserved c = (
  λ k h. grind (arith, common_steps, kept_bits, c.loop-mask.invariant.0 k, c.loop-mask.invariant.1 k),
  λ k h. grind (arith, common_steps, c.loop-mask.invariant.1 k),
)
