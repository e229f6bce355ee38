-- A comment, or nothing that may begin. Assumes nothing.
use Rattle.std.proofs.Common.{◌≡◌, ◌+◌, drop, Err, sym, ap, ◌∙◌, arith, ltb-false, ltb-true}
use Rattle.std.proofs.lemmas.List.{take_rest}
use Rattle.markup.specs.Runs.{shifted}
use Rattle.markup.specs.Tags.{at_bang, in_remark, begins_none, cut_short, scan_from}
use Rattle.markup.proofs.Scanning.{shifted_twice}
use Rattle.xml.specs.Items.{piece_by}
use Rattle.xml.proofs.Pieces.{past, ahead, two_dashes_lem, bang_short, dash_short, no_dash, one_dash_lem}
use Rattle.xml.proofs.items.At.remark.Goals as goal
use Rattle.xml.proofs.items.At.remark.Goals.{in_default-via-then-rest-lt2+in_default-1, in_default-via-else-rest-lt2+in-45+in_default-1, in_default-via-else-rest-lt2+in_default-1, then-rest-lt1, else-rest-lt1+then-rest-lt2+in-45-1}

pub returns-in-45 : goal.returns-in-45
returns-in-45 c =
    let m = c.args.self.message.now in
    let p = c.args.self.place in
    let s = past m (p + 2) in
    let four : p + 2 + 2 ≡ p + 4 = omega arith in
    let e = two_dashes_lem s (omega (arith, ltb-true, ltb-false)) (omega (arith, ltb-true, ltb-false)) (omega (arith, ltb-true, ltb-false)) in
    record {
      answer =
          c.marked.ensures.answer
          ∙ ap (λ n. piece_by p (shifted 3 (scan_from in_remark (drop n m)))) (sym four)
          ∙ ap (λ l. piece_by p (shifted 3 (scan_from in_remark l))) (sym (ahead m (p + 2) 2))
          ∙ ap (piece_by p) (sym (shifted_twice 1 2 _) ∙ ap (shifted 1) (sym e))
          ∙ ap (λ l. piece_by p (shifted 1 (scan_from at_bang l))) (take_rest m (p + 2));
    }

pub returns-in_default : goal.returns-in_default
returns-in_default c =
    let p = c.args.self.place in
    let s = past c.args.self.message.now (p + 2) in
    let e : scan_from at_bang s ≡ begins_none = elim c.in_default.branch [
      | in_default-via-then-rest-lt2+in_default-1 w ↦ no_dash s (omega (arith, ltb-true, ltb-false)) (λ q. omega (arith, ltb-true, ltb-false))
      | in_default-via-else-rest-lt2+in-45+in_default-1 w ↦ one_dash_lem s (omega (arith, ltb-true, ltb-false)) (omega (arith, ltb-true, ltb-false)) (λ q. omega (arith, ltb-true, ltb-false))
      | in_default-via-else-rest-lt2+in_default-1 w ↦ no_dash s (omega (arith, ltb-true, ltb-false)) (λ q. omega (arith, ltb-true, ltb-false))
    ] in
    record { answer = ap (λ x. Err x) c.refuse.ensures.answer ∙ sym (ap (λ x. piece_by p (shifted 1 x)) e) ∙ ap (λ l. piece_by p (shifted 1 (scan_from at_bang l))) (take_rest c.args.self.message.now (p + 2)) }

pub returns-in-empty : goal.returns-in-empty
returns-in-empty c =
    let p = c.args.self.place in
    let s = past c.args.self.message.now (p + 2) in
    let e : scan_from at_bang s ≡ cut_short = elim c.in-empty-1.branch [
      | then-rest-lt1 w ↦ bang_short s (omega (arith, ltb-true, ltb-false))
      | else-rest-lt1+then-rest-lt2+in-45-1 w ↦ dash_short s (omega (arith, ltb-true, ltb-false)) (omega (arith, ltb-true, ltb-false))
    ] in
    record { answer = ap (λ x. Err x) c.refuse-in-empty.ensures.answer ∙ sym (ap (λ x. piece_by p (shifted 1 x)) e) ∙ ap (λ l. piece_by p (shifted 1 (scan_from at_bang l))) (take_rest c.args.self.message.now (p + 2)) }
