-- What a vocabulary stands for. Assumes nothing.
use Rattle.std.specs.Prelude.{ℕ, List, Ok, Err, Result}
use Rattle.vocabulary.specs.Tables.{names_in}
use Rattle.vocabulary.specs.declared.faults.Fault.{Fault}
use Rattle.vocabulary.specs.declared.vocabularies.Vocabulary.{Vocabulary}

-- its names, line by line
abbrev pub names_of : Vocabulary → List (List ℕ)
names_of v = names_in v.table

-- accepted, or the fault
abbrev pub verdict : {X : Type 0} → Result X Fault → Result (Unit {0}) Fault
verdict (Ok x) = Ok tt
verdict (Err f) = Err f
