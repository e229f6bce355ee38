-- Writing a filter's text into a buffer. Assumes nothing.
use Rattle.std.specs.Prelude.{ℕ, ◌-◌, cond, List, ◌++◌, length, replicate, Some, None, Ok, Err, Option, Result, nat_le}
use Rattle.vocabulary.specs.declared.faults.Fault.{Fault}
use Rattle.vocabulary.specs.declared.faults.Question.TheVariants.{CodeUnknown, BufferShort}
use Rattle.vocabulary.specs.Faults.{fault}
use Rattle.filter.specs.declared.steps.Step.{Step}
use Rattle.filter_text.specs.Texts.{text_of, unknown_from}

-- n, unless there is a step whose code is not in the vocabulary
abbrev pub unless_unknown : Option ℕ → ℕ → Result ℕ Fault
unless_unknown None n = Ok n
unless_unknown (Some k) n = Err (fault CodeUnknown k)

-- the length of the text, or the fault of the first step whose code is not in the vocabulary
abbrev pub text_length : List (List ℕ) → List Step → Result ℕ Fault
text_length names ss = unless_unknown (unknown_from names 1 ss) (length (text_of names ss))

-- a text of n bytes goes into a buffer of m
abbrev pub fitting : Result ℕ Fault → ℕ → Result ℕ Fault
fitting (Ok n) m = cond (nat_le n m) (Ok n) (Err (fault BufferShort 0))
fitting (Err f) m = Err f

-- how many bytes are written into a buffer of m, or the fault
abbrev pub write_answer : List (List ℕ) → List Step → ℕ → Result ℕ Fault
write_answer names ss m = fitting (text_length names ss) m

-- text and then zeros fill the buffer; a refusal writes nothing
abbrev pub filled : Result ℕ Fault → List ℕ → List ℕ → List ℕ
filled (Ok n) text before = text ++ replicate (length before - n) 0
filled (Err f) text before = before
