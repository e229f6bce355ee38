-- Each way over the tag is a turn. Assumes nothing.
use Rattle.std.proofs.Common.{Ok, Err, sym, subst}
use Rattle.xml.specs.Tags.{StartTagged}
use Rattle.xml.specs.Texts.{Turn}
use Rattle.xml.proofs.Refusals.{handed_on}
use Rattle.xml.proofs.Turns.{at_fault, not_admitted}
use Rattle.xml.proofs.texts.TextReader.start_tag.Goals as goal

pub returns-in_err-tag : goal.returns-in_err-tag
returns-in_err-tag c =
    let s = c.args.self.now in
    let e = handed_on c.from_residual.result c.from_residual.ensures.1 in
    let f = c.in_err-tag.field-0.0 in
    let h = subst (λ m. StartTagged m c.args.at.place (Err f)) c.requires.ready.here c.in_err-tag.ensures.answer in
    record { turn = subst (λ x. Turn s x s) (sym e) (at_fault s c.args.at.place c.requires.ready.idle c.requires.onwards f h) }

pub returns-in_err-admit : goal.returns-in_err-admit
returns-in_err-admit c =
    let s = c.args.self.now in
    let t = c.in_ok-tag.tag in
    let e = handed_on c.from_residual-in_err-admit.result c.from_residual-in_err-admit.ensures.1 in
    let h = subst (λ m. StartTagged m c.args.at.place (Ok t)) c.requires.ready.here c.in_ok-tag.ensures.answer in
    record { turn = subst (λ x. Turn s x s) (sym e) (not_admitted s c.args.at.place c.requires.ready.idle c.requires.onwards t t.kind c.in_err-admit.field-0.0 h.1 h.0 (sym c.in_err-admit.ensures.answer)) }
