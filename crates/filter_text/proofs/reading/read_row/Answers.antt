use Rattle.std.proofs.Common.{◌-◌, ◌<◌, length, sym, arith, false-eqb}
use Rattle.std.proofs.lemmas.Grind.{common_steps}
use Rattle.vocabulary.specs.Readings.{names_of}
use Rattle.rows.specs.Rows.{items_of}
use Rattle.rows.proofs.Items.{items_few}
use Rattle.filter_text.specs.Reads.{read_from}
use Rattle.filter_text.proofs.Turns.{done, onward, stopped}
use Rattle.filter_text.proofs.reading.read_row.Goals as goal

pub loop-rest-init : goal.loop-rest-init
loop-rest-init c =
    let fresh = c.new-steps.ensures.items in
    (omega arith, λ i. read_from (names_of c.args.vocabulary.now) (8 - length (fresh i)) (fresh i) 0 c.args.text.now)

pub returns-in_err-step : goal.returns-in_err-step
returns-in_err-step c =
    let some : 0 < length c.loop-rest.rest.0.now = omega (arith, false-eqb _ 0 c.loop-rest-test.ensures) in
    let room : length (items_of c.loop-rest.steps) < 8 = omega (arith, items_few c.loop-rest.steps, false-eqb _ 8 c.if-is_full.ensures.value) in
    let e = stopped (names_of c.args.vocabulary.now) (items_of c.loop-rest.steps) room _ _ _ some (sym c.in_err-step.ensures.answer) in
    let read = c.loop-rest.invariant.1 in
    grind (arith, common_steps)

pub loop-rest-preserved : goal.loop-rest-preserved
loop-rest-preserved c =
    let few = items_few c.loop-rest.steps in
    let within = c.loop-rest.invariant.0 in
    let less = c.in_ok-step.ensures.shorter in
    let place = c.in_ok-step.ensures.place in
    (omega arith, grind (arith, common_steps, onward))

pub returns : goal.returns
returns c = record { answer = grind (arith, common_steps, done) }
