use Rattle.std.proofs.Common.{◌≡◌, length, None, sym, ap, arith}
use Rattle.vocabulary.specs.Names.{code_of}
use Rattle.vocabulary.specs.Readings.{names_of}
use Rattle.vocabulary.proofs.Codes.{code_none, is_code}
use Rattle.vocabulary.proofs.vocabularies.Vocabulary.code_of.Goals as goal

pub returns-then-name-gt-MOST_NAME_BYTES : goal.returns-then-name-gt-MOST_NAME_BYTES
returns-then-name-gt-MOST_NAME_BYTES c =
    let v = c.args.self.now in
    let s = c.args.name.now in
    let long = c.if-name-gt-MOST_NAME_BYTES.true in
    let none : None ≡ code_of (names_of v) s = sym (code_none (names_of v) s (length (names_of v)) (λ k h e. let short = v.table.short k h in let same = ap length e in omega arith)) in
    record { answer = none; rule = is_code (names_of v) v.once s None none }

pub returns-clause-rule : goal.returns-clause-rule
returns-clause-rule c = let v = c.args.self.now in is_code (names_of v) v.once c.args.name.now c.code_of.result c.code_of.ensures.answer
