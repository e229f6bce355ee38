-- What stands behind a `<`. Assumes nothing.
use Rattle.std.proofs.Common.{◌≡◌, ◌+◌, drop, Err, sym, ap, ◌∙◌, arith, ltb-false, ltb-true}
use Rattle.std.proofs.lemmas.List.{take_rest}
use Rattle.markup.specs.Bytes.{name_start}
use Rattle.markup.specs.Runs.{shifted}
use Rattle.markup.specs.Tags.{at_bang, in_order, scan_from}
use Rattle.xml.specs.Items.{piece_by, piece_of}
use Rattle.xml.proofs.Pieces.{past, ahead, at_bang_lem, at_ask, at_start, at_none, at_other}
use Rattle.xml.proofs.items.At.markup.Goals as goal

pub returns-in-empty : goal.returns-in-empty
returns-in-empty c =
    let m = c.args.self.message.now in
    let p = c.args.self.place in
    record { answer = ap (λ x. Err x) c.refuse.ensures.answer ∙ sym (at_none p (past m (p + 1)) (omega (arith, ltb-true, ltb-false))) ∙ ap (piece_of p) (take_rest m (p + 1)) }

pub returns-in-33 : goal.returns-in-33
returns-in-33 c =
    let m = c.args.self.message.now in
    let p = c.args.self.place in
    let two : p + 1 + 1 ≡ p + 2 = omega arith in
    record {
      answer =
          c.remark.ensures.answer
          ∙ sym (ap (λ l. piece_by p (shifted 1 (scan_from at_bang l))) (ahead m (p + 1) 1 ∙ ap (λ n. drop n m) two))
          ∙ sym (at_bang_lem p (past m (p + 1)) (omega (arith, ltb-true, ltb-false)) (omega (arith, ltb-true, ltb-false)))
          ∙ ap (piece_of p) (take_rest m (p + 1));
    }

pub returns-in-63 : goal.returns-in-63
returns-in-63 c =
    let m = c.args.self.message.now in
    let p = c.args.self.place in
    let two : p + 1 + 1 ≡ p + 2 = omega arith in
    record {
      answer =
          c.marked.ensures.answer
          ∙ sym (ap (λ l. piece_by p (shifted 1 (scan_from in_order l))) (ahead m (p + 1) 1 ∙ ap (λ n. drop n m) two))
          ∙ sym (at_ask p (past m (p + 1)) (omega (arith, ltb-true, ltb-false)) (omega (arith, ltb-true, ltb-false)))
          ∙ ap (piece_of p) (take_rest m (p + 1));
    }

pub returns-in-len1-up : goal.returns-in-len1-up
unfolding name_start
returns-in-len1-up c =
    let m = c.args.self.message.now in
    let p = c.args.self.place in
    record { answer = sym (at_start p (past m (p + 1)) (λ q. omega (arith, ltb-true, ltb-false)) (sym c.if-is_name_start.ensures.answer)) ∙ ap (piece_of p) (take_rest m (p + 1)) }

pub returns-in_default : goal.returns-in_default
unfolding name_start
returns-in_default c =
    let m = c.args.self.message.now in
    let p = c.args.self.place in
    record {
      answer =
          ap (λ x. Err x) c.refuse-in_default.ensures.answer
          ∙ sym (at_other p (past m (p + 1)) (omega (arith, ltb-true, ltb-false)) (λ q. omega (arith, ltb-true, ltb-false)) (sym c.if-is_name_start.ensures.answer) (λ q. omega (arith, ltb-true, ltb-false)) (λ q. omega (arith, ltb-true, ltb-false)))
          ∙ ap (piece_of p) (take_rest m (p + 1));
    }
