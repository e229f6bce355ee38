-- Each way over the tag is a turn. Assumes nothing.
use Rattle.std.proofs.Common.{Ok, Err, sym, subst}
use Rattle.xml.specs.Tags.{EndTagged}
use Rattle.xml.specs.Texts.{Turn}
use Rattle.xml.proofs.Refusals.{handed_on}
use Rattle.xml.proofs.Turns.{at_fault, unmet, closed_by_lem}
use Rattle.xml.proofs.texts.TextReader.end_tag.Goals as goal

pub returns-in_err-tag : goal.returns-in_err-tag
returns-in_err-tag c =
    let s = c.args.self.now in
    let e = handed_on c.from_residual.result c.from_residual.ensures.1 in
    let f = c.in_err-tag.field-0.0 in
    let h = subst (λ m. EndTagged m c.args.at.place (Err f)) c.requires.ready.here c.in_err-tag.ensures.answer in
    record { turn = subst (λ x. Turn s x s) (sym e) (at_fault s c.args.at.place c.requires.ready.idle c.requires.onwards f h) }

pub returns-in_err-meet : goal.returns-in_err-meet
returns-in_err-meet c =
    let s = c.args.self.now in
    let t = c.in_ok-tag.tag in
    let e = handed_on c.from_residual-in_err-meet.result c.from_residual-in_err-meet.ensures.1 in
    let h = subst (λ m. EndTagged m c.args.at.place (Ok t)) c.requires.ready.here c.in_ok-tag.ensures.answer in
    record { turn = subst (λ x. Turn s x s) (sym e) (unmet s c.args.at.place c.requires.ready.idle c.requires.onwards t c.in_err-meet.field-0.0 h (sym c.in_err-meet.ensures.answer)) }

pub returns : goal.returns
returns c =
    let s = c.args.self.now in
    let t = c.in_ok-tag.tag in
    let h = subst (λ m. EndTagged m c.args.at.place (Ok t)) c.requires.ready.here c.in_ok-tag.ensures.answer in
    record { turn = closed_by_lem s c.args.at.place c.requires.ready.idle c.requires.onwards t c.close-2.new.self h (sym c.in_ok-meet.ensures.answer) c.close-2.ensures.after }
