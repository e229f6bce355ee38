-- The number of each refusal, and faults. Assumes nothing.
use Rattle.std.specs.Prelude.{ℕ}
use Rattle.vocabulary.specs.declared.faults.Fault.{Fault}
use Rattle.vocabulary.specs.declared.faults.Question.{Question}
use Rattle.vocabulary.specs.declared.faults.Question.TheVariants.{VocabularySize, LineNotEnded, LineNotName, TooManyNames, NameTwice, FilterSize, TooManySteps, StepNoSlash, StepNoTest, StepNameLong, StepNameUnknown, CodeUnknown, BufferShort, TextSize, ByteOutsideRoot, NoMarkup, MarkupNotEnded, ByteMisfit, TagAfterRoot, TagTooDeep, EndTagUnmet, TextNotEnded, RecordingSize, WordTooGreat, WordAfterRoot, WordTooDeep, WordNoneOpen, RecordingNotEnded, SourceNotFresh}

-- the number that people are told
abbrev pub number_of : Question → ℕ
number_of VocabularySize = 11
number_of LineNotEnded = 12
number_of LineNotName = 13
number_of TooManyNames = 14
number_of NameTwice = 15
number_of FilterSize = 21
number_of TooManySteps = 22
number_of StepNoSlash = 23
number_of StepNoTest = 24
number_of StepNameLong = 25
number_of StepNameUnknown = 26
number_of CodeUnknown = 27
number_of BufferShort = 28
number_of TextSize = 31
number_of ByteOutsideRoot = 32
number_of NoMarkup = 33
number_of MarkupNotEnded = 34
number_of ByteMisfit = 35
number_of TagAfterRoot = 36
number_of TagTooDeep = 37
number_of EndTagUnmet = 38
number_of TextNotEnded = 39
number_of RecordingSize = 41
number_of WordTooGreat = 42
number_of WordAfterRoot = 43
number_of WordTooDeep = 44
number_of WordNoneOpen = 45
number_of RecordingNotEnded = 46
number_of SourceNotFresh = 72

-- the question that said no, and where
abbrev pub fault : Question → ℕ → Fault
fault q n = record { question = q; place = n }
