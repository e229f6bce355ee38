-- What a word of a recording stands for. Assumes nothing.
use Rattle.std.specs.Prelude.{ℕ, zero, suc, cond, Ok, Err, Result, nat_le}
use Rattle.vocabulary.specs.declared.faults.Question.{Question}
use Rattle.vocabulary.specs.declared.faults.Question.TheVariants.{WordTooGreat}
use Rattle.vocabulary.specs.Limits.{most_names}
use Rattle.recording.specs.declared.words.Word.{Word}
use Rattle.recording.specs.declared.words.Word.TheVariants.{End, Start}

-- 0 ends an element, and v from 1 to 513 starts one of the code v - 1
abbrev pub word_of : ℕ → Result Word Question
word_of zero = Ok End
word_of (suc c) = cond (nat_le c most_names) (Ok (Start c)) (Err WordTooGreat)
