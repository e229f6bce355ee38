-- The end is found, or the text ends before. Assumes nothing.
use Rattle.std.proofs.Common.{◌≡◌, ◌+◌, ◌-◌, length, Ok, Err, sym, ap, ◌∙◌, arith, length-drop}
use Rattle.std.proofs.lemmas.List.{take_rest}
use Rattle.markup.specs.Runs.{shifted, mark_bytes}
use Rattle.markup.specs.Tags.{scan_from}
use Rattle.xml.specs.declared.items.Piece.TheVariants.{Quiet}
use Rattle.xml.specs.Items.{begun, piece_by}
use Rattle.xml.proofs.Pieces.{past, mark_found, mark_none}
use Rattle.xml.proofs.items.At.marked.Goals as goal

pub overflow_add-result : goal.overflow_add-result
overflow_add-result c =
    let m = c.args.self.message.now in
    let start = c.args.self.place + c.args.head in
    let found = mark_found c.args.mark (past m start) c.in-Some.n c.in-Some.ensures.answer in
    let l = ap length (take_rest m start) ∙ length-drop start m in
    let inside = c.requires.inside in
    let small = c.args.self.small in
    omega arith

pub overflow_add-result-in-Some : goal.overflow_add-result-in-Some
overflow_add-result-in-Some c =
    let m = c.args.self.message.now in
    let start = c.args.self.place + c.args.head in
    let found = mark_found c.args.mark (past m start) c.in-Some.n c.in-Some.ensures.answer in
    let l = ap length (take_rest m start) ∙ length-drop start m in
    let inside = c.requires.inside in
    let small = c.args.self.small in
    let size = ap length c.bytes.ensures.answer in
    omega arith

pub returns-in-Some : goal.returns-in-Some
returns-in-Some c =
    let m = c.args.self.message.now in
    let p = c.args.self.place in
    let head = c.args.head in
    let n = c.in-Some.n in
    let some = c.requires.some in
    let size = ap length c.bytes.ensures.answer in
    let e : p + head + n + length c.bytes.result.now ≡ p + 1 + (head - 1 + (n + length (mark_bytes c.args.mark))) = omega arith in
    let found = mark_found c.args.mark (past m (p + head)) n c.in-Some.ensures.answer in
    record { answer = ap (λ x. Ok (Quiet x)) e ∙ sym (ap (λ x. piece_by p (shifted (head - 1) x)) found.0) ∙ ap (λ l. piece_by p (shifted (head - 1) (scan_from (begun c.args.mark) l))) (take_rest m (p + head)) }

pub returns-in-None : goal.returns-in-None
returns-in-None c =
    let m = c.args.self.message.now in
    let p = c.args.self.place in
    let head = c.args.head in
    let none = mark_none c.args.mark (past m (p + head)) c.in-None.ensures.answer in
    record { answer = ap (λ x. Err x) c.refuse.ensures.answer ∙ sym (ap (λ x. piece_by p (shifted (head - 1) x)) none) ∙ ap (λ l. piece_by p (shifted (head - 1) (scan_from (begun c.args.mark) l))) (take_rest m (p + head)) }
