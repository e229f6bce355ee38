use Rattle.std.proofs.Common.{vec_items, refl, arith, ltb-false, ltb-true}
use Rattle.router.proofs.Steps.{more, none}
use Rattle.router.proofs.words.words_in.Goals as goal

pub loop-rest-preserved : goal.loop-rest-preserved
loop-rest-preserved c = more (vec_items c.loop-rest.words) _ c.loop-rest.rest.now _ _ (omega (arith, ltb-true, ltb-false)) refl (grind arith) c.loop-rest.invariant

pub returns : goal.returns
returns c = record { answer = none (vec_items c.loop-rest.words) c.loop-rest.rest.now _ (omega (arith, ltb-true, ltb-false)) c.loop-rest.invariant }
