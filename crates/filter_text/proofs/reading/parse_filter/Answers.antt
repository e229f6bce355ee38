use Rattle.std.proofs.Common.{◌≡◌, true, Ok, sym, ap, ◌∙◌, arith}
use Rattle.std.proofs.lemmas.Grind.{common_steps}
use Rattle.vocabulary.specs.Readings.{names_of}
use Rattle.rows.specs.Rows.{items_of}
use Rattle.filter.specs.Filters.{is_filter}
use Rattle.filter.specs.Walks.{steps_of}
use Rattle.filter_text.specs.Reads.{read_steps}
use Rattle.filter_text.specs.Texts.{text_of}
use Rattle.filter_text.proofs.Back.{reading, reads_filter}
use Rattle.vocabulary.proofs.Counts.{names_few}
use Rattle.filter_text.proofs.reading.parse_filter.Goals as goal

pub returns-then-not-contains-clause-theorem : goal.returns-then-not-contains-clause-theorem
returns-then-not-contains-clause-theorem c = reading

pub returns-in_err-steps-clause-theorem : goal.returns-in_err-steps-clause-theorem
returns-in_err-steps-clause-theorem c = reading

pub unwrap-requires : goal.unwrap-requires
unwrap-requires c =
    let text = c.args.text.now in
    let v = c.args.vocabulary.now in
    let read : read_steps (names_of v) text ≡ Ok (items_of c.in_ok-steps.steps) = grind (arith, common_steps) in
    let is : is_filter c.as_slice.result.now ≡ true = ap is_filter c.as_slice.ensures.items ∙ reads_filter (names_of v) v.each v.once (names_few v) text _ read in
    grind (arith, common_steps)

pub returns-clause-back : goal.returns-clause-back
returns-clause-back c =
    let text = c.args.text.now in
    let v = c.args.vocabulary.now in
    let names = names_of v in
    let read : read_steps names text ≡ Ok (items_of c.in_ok-steps.steps) = grind (arith, common_steps) in
    let same : steps_of c.unwrap.result ≡ items_of c.in_ok-steps.steps = grind (arith, common_steps) in
    ap (text_of names) same ∙ sym ((reading names v.each v.once text _).0 read).same

pub returns-clause-theorem : goal.returns-clause-theorem
returns-clause-theorem c = reading
