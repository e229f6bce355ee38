-- Each item that is passed, and what comes first. Assumes nothing.
use Rattle.std.proofs.Common.{◌≡◌, ℕ, ◌<◌, Bool, not, List, length, drop, Ok, Err, Result, sym, refl, ap, ◌∙◌, subst, arith}
use Rattle.vocabulary.specs.declared.faults.Fault.{Fault}
use Rattle.markup.specs.Readings.{Stand, is_empty}
use Rattle.xml.specs.declared.items.Piece.{Piece}
use Rattle.xml.specs.declared.items.Piece.TheVariants.{Quiet, Start, End}
use Rattle.xml.specs.Items.{item_of}
use Rattle.xml.specs.Seeks.{SoughtIn, SoughtTold}
use Rattle.xml.proofs.Refusals.{handed_on}
use Rattle.xml.proofs.Quiet.{Facts, Told, facts, told, angle_events, angle_ending}
use Rattle.xml.proofs.seeking.seek.Goals as goal

module _ (m : List ℕ) (n : ℕ) (inside : Bool) (lt : n < length m) (x : Result Piece Fault) (at : x ≡ item_of inside n (drop n m)) where
  known : Facts m n x
  known = subst (Facts m n) (sym at) (facts m n lt inside)

  tells : (voc : List (List ℕ)) (st : Stand) → is_empty st.names ≡ not inside → Told voc st m n x
  tells voc st h = subst (Told voc st m n) (sym at) (told m n lt voc st inside h)

pub loop-place-preserved : goal.loop-place-preserved
loop-place-preserved c =
    let m = c.args.message.now in
    let n = c.loop-place.place in
    let inside = c.args.inside in
    let at = ap (λ x. Ok x) (sym c.in-Quiet.is) ∙ c.in_ok-next.ensures.answer in
    let lt = c.loop-place-test.true in
    let f = known m n inside lt (Ok (Quiet c.in-Quiet.next)) at in
    let inv = c.loop-place.invariant in (
      omega arith,
      f.1,
      λ voc st h. let t = tells m n inside lt (Ok (Quiet c.in-Quiet.next)) at voc st h in let i = inv.2 voc st h in (i.0 ∙ t.0, i.1 ∙ t.1),
    )

pub returns-in-Start : goal.returns-in-Start
returns-in-Start c =
    let m = c.args.message.now in
    let n = c.loop-place.place in
    let inside = c.args.inside in
    let at = ap (λ x. Ok x) (sym c.in-Start.is) ∙ c.in_ok-next.ensures.answer in
    let lt = c.loop-place-test.true in
    let f = known m n inside lt (Ok Start) at in
    let inv = c.loop-place.invariant in
    record {
      found = (refl, inv.0, f.2);
      told = λ voc st h. let i = inv.2 voc st h in (i.0 ∙ angle_events m n lt voc st f.0, i.1 ∙ angle_ending m n lt voc st f.0);
    }

pub returns-in-End : goal.returns-in-End
returns-in-End c =
    let m = c.args.message.now in
    let n = c.loop-place.place in
    let inside = c.args.inside in
    let at = ap (λ x. Ok x) (sym c.in-End.is) ∙ c.in_ok-next.ensures.answer in
    let lt = c.loop-place-test.true in
    let f = known m n inside lt (Ok End) at in
    let inv = c.loop-place.invariant in
    record {
      found = (refl, inv.0, record { within = f.1; slashed = f.2 });
      told = λ voc st h. let i = inv.2 voc st h in (i.0 ∙ angle_events m n lt voc st f.0, i.1 ∙ angle_ending m n lt voc st f.0);
    }

pub returns-in_err-next : goal.returns-in_err-next
returns-in_err-next c =
    let m = c.args.message.now in
    let n = c.loop-place.place in
    let inside = c.args.inside in
    let q = c.in_err-next.field-0.0 in
    let e = handed_on c.from_residual.result c.from_residual.ensures.1 in
    let inv = c.loop-place.invariant in
    record {
      found = subst (SoughtIn m c.args.start) (sym e) tt;
      told = subst (SoughtTold m c.args.start inside) (sym e) (λ voc st h.
          let t = tells m n inside c.loop-place-test.true (Err q) c.in_err-next.ensures.answer voc st h in
          let i = inv.2 voc st h in (i.0 ∙ t.0, i.1 ∙ t.1));
    }
