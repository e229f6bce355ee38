-- What comes behind the name fits there. Assumes nothing.
use Rattle.std.proofs.Common.{arith}
use Rattle.markup.specs.Runs.{kind_of, standing}
use Rattle.markup.specs.Tags.{ends, misfits}
use Rattle.xml.proofs.Pieces.{past_reaches}
use Rattle.xml.proofs.items.At.tagged.Goals as goal

pub overflow_add-result-in-Ok : goal.overflow_add-result-in-Ok
overflow_add-result-in-Ok c =
    let far = past_reaches c.args.self.message.now c.args.name.end (standing c.args.tag) (ends (kind_of c.in-Ok.field-0.kind) c.in-Ok.field-0.len) c.in-Ok.ensures.answer in
    let inside = c.requires.inside in
    let small = c.args.self.small in
    omega arith

pub overflow_add-name : goal.overflow_add-name
overflow_add-name c =
    let far = past_reaches c.args.self.message.now c.args.name.end (standing c.args.tag) (misfits c.in-Err-Misfit.n) (rw c.in-Err-Misfit.field-0-is at c.in-Err-Misfit.ensures.answer) in
    let small = c.args.self.small in
    omega arith

pub overflow_cast-name : goal.overflow_cast-name
overflow_cast-name c =
    let far = past_reaches c.args.self.message.now c.args.name.end (standing c.args.tag) (misfits c.in-Err-Misfit.n) (rw c.in-Err-Misfit.field-0-is at c.in-Err-Misfit.ensures.answer) in
    let small = c.args.self.small in
    omega arith
