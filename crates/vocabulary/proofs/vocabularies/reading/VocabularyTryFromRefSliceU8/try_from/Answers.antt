use Rattle.std.proofs.Common.{length, sym, ◌∙◌, arith, false-eqb}
use Rattle.vocabulary.specs.Tables.{names_in}
use Rattle.vocabulary.proofs.Spelling.{accepts, sized}
use Rattle.vocabulary.proofs.vocabularies.reading.VocabularyTryFromRefSliceU8.try_from.Goals as goal

pub invariant_of-result : goal.invariant_of-result
invariant_of-result c =
    let text = c.args.text.now in
    let some = false-eqb (length text) 0 c.if-is_empty.ensures in
    let spells = (accepts text (names_in c.in_ok-table.table)).0 (sized text (omega arith) (omega arith) ∙ sym c.in_ok-table.ensures.answer) in
    record { spelled = c.in_ok-table.ensures.text ∙ spells.lines; each = spells.each; once = spells.once }

pub returns-then-is_empty-clause-theorem : goal.returns-then-is_empty-clause-theorem
returns-then-is_empty-clause-theorem c = accepts

pub returns-in_err-table-clause-theorem : goal.returns-in_err-table-clause-theorem
returns-in_err-table-clause-theorem c = accepts

pub returns-clause-theorem : goal.returns-clause-theorem
returns-clause-theorem c = accepts
