use Rattle.std.proofs.Common.{◌≡◌, ◌-◌, ◌++◌, length, take, replicate, None, sym, refl, ap, ◌∙◌, arith}
use Rattle.std.proofs.lemmas.Grind.{common_steps}
use Rattle.std.proofs.lemmas.List.{take_at}
use Rattle.vocabulary.specs.Readings.{names_of}
use Rattle.rows.proofs.Items.{items_few}
use Rattle.filter.specs.Walks.{steps_of}
use Rattle.filter_text.specs.Reads.{read_steps}
use Rattle.filter_text.specs.Texts.{text_of, unknown_from}
use Rattle.filter_text.proofs.Back.{reading}
use Rattle.filter_text.proofs.writing.write_filter.Goals as goal

pub returns-clause-back : goal.returns-clause-back
returns-clause-back c =
    let v = c.args.vocabulary.now in
    let f = c.args.filter.now in
    let names = names_of v in
    let steps = steps_of f in
    let text = text_of names steps in
    let place : c.put_steps-place.result ≡ length text = grind (arith, common_steps) in
    let now : c.clear_from.new.buffer ≡ text ++ replicate (length c.args.buffer.now - c.put_steps-place.result) 0 = grind (arith, common_steps) in
    let known : unknown_from names 1 steps ≡ None = grind (arith, common_steps) in
    let few = items_few f.steps in
    let some = f.some in
    ap (λ b. read_steps names (take c.put_steps-place.result b)) now ∙ ap (read_steps names) (take_at text _ c.put_steps-place.result (sym place))
    ∙ (reading names v.each v.once text steps).1 (record { some = omega arith; few = few; known = known; same = refl })
