use Rattle.std.proofs.Common.{◌≡◌, ◌+◌, ◌-◌, length, take, drop, Err, [], ◌∷◌, ◌++◌, sym, refl, ap, ◌∙◌, subst, arith, length-drop}
use Rattle.std.proofs.lemmas.List.{take_rest, drop-drop}
use Rattle.std.proofs.lemmas.Result.{err_from_is_err_and}
use Rattle.vocabulary.specs.Entries.{cut, no_link}
use Rattle.vocabulary.specs.Tables.{names_in}
use Rattle.vocabulary.specs.Vocabularies.{admitted, LineRead, read_lines}
use Rattle.vocabulary.proofs.Spelling.{line_open, line_refused, line_taken, line_short}
use Rattle.vocabulary.proofs.vocabularies.reading.take_line.Goals as goal

pub returns-then-len-rest : goal.returns-then-len-rest
returns-then-len-rest c = record { text = refl; answer = line_open (names_in c.args.table.now) c.args.place c.args.rest.now c.line_len-len.result c.line_len-len.ensures.answer c.if-len-rest.true c.requires.some ∙ ap Err (sym c.at.ensures.answer) }

pub returns-in_err-admit : goal.returns-in_err-admit
returns-in_err-admit c =
    let p = err_from_is_err_and c.from_residual.result c.from_residual.ensures.1 in
    let names = names_in c.args.table.now in
    let place = c.args.place in
    let e = line_refused names place c.args.rest.now c.line_len-len.result c.line_len-len.ensures.answer c.in_err-admit.field-0.0 (omega arith) (ap (admitted names place) (sym c.split_at.ensures.front) ∙ sym c.in_err-admit.ensures.answer) in
    record { text = refl; answer = subst (LineRead c.args.rest.now place names names) (sym (p.1 ∙ ap Err p.2)) e }

pub add-requires : goal.add-requires
add-requires c =
    let short = line_short (names_in c.args.table.now) c.args.place c.split_at.result.0.now c.in_ok-admit.field-0 (sym c.in_ok-admit.ensures.answer) in
    let name = short.0 in
    let len = c.split_at.ensures.front_len in
    let here = ap length c.requires.here ∙ length-drop c.args.place c.args.table.now.text.now in
    record { room = short.1; inside = (omega arith, omega arith); short = omega arith }

pub returns : goal.returns
returns c =
    let names = names_in c.args.table.now in
    let place = c.args.place in
    let rest = c.args.rest.now in
    let k = c.line_len-len.result in
    let front = c.split_at.ensures.front in
    let text = c.args.table.now.text.now in
    let all : place + k - place ≡ k = omega arith in
    let name : cut text (record { start = place; end = place + k; before = no_link }) ≡ c.split_at.result.0.now = ap (λ n. take n (drop place text)) all ∙ ap (take k) (sym c.requires.here) ∙ sym front in
    let after : take (length c.split_at.result.1.now - 1) (drop 1 c.split_at.result.1.now) ≡ drop (k + 1) rest = take_rest c.split_at.result.1.now 1 ∙ ap (drop 1) c.split_at.ensures.back ∙ drop-drop 1 k rest in
    let size = ap length after ∙ length-drop (k + 1) rest in
    let len : length rest - length (take (length c.split_at.result.1.now - 1) (drop 1 c.split_at.result.1.now)) ≡ k + 1 = omega arith in
    record {
      text = c.add.ensures.text;
      answer = (
        line_taken names place rest k c.line_len-len.ensures.answer c.in_ok-admit.field-0 (omega arith) (ap (admitted names place) (sym front) ∙ sym c.in_ok-admit.ensures.answer)
            ∙ ap (λ ns. read_lines ns (place + (k + 1)) [] (drop (k + 1) rest)) (ap (λ w. names ++ w ∷ []) (sym front ∙ sym name) ∙ sym c.add.ensures.names)
            ∙ ap (λ n. read_lines (names_in c.add.new.self) (place + n) [] (drop (k + 1) rest)) (sym len)
            ∙ ap (read_lines (names_in c.add.new.self) _ []) (sym after),
        omega arith,
        after ∙ ap (λ n. drop n rest) (sym len),
      );
    }
