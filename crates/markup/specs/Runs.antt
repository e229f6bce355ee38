-- How the code's machine stands, what a run of it answers, and where fixed bytes are first found. Assumes nothing.
use Rattle.std.specs.Prelude.{ℕ, ◌+◌, Bool, cond, not, List, [], ◌∷◌, Some, None, Option, Ok, Err, Result, ◌==◌}
use Rattle.markup.specs.Bytes.{open_angle, apostrophe, quotation, begins, comment_end, instruction_end}
use Rattle.markup.specs.Grammar.{Kind, opening, empty, closing}
use Rattle.markup.specs.Tags.{State, in_name, in_gap, in_word, in_wait, at_value, in_value, at_ended, at_slash, end_first, end_name, end_gap, Move, on, ended, misfit, Scan, cut_short, ends, begins_none, misfits}
use Rattle.markup.specs.declared.tags.Ended.{Ended}
use Rattle.markup.specs.declared.tags.Misread.{Misread}
use Rattle.markup.specs.declared.tags.Misread.TheVariants as R
use Rattle.markup.specs.declared.tags.Outcome.{Outcome}
use Rattle.markup.specs.declared.tags.Outcome.TheVariants as O
use Rattle.markup.specs.declared.tags.Tag.{Tag}
use Rattle.markup.specs.declared.tags.Tag.TheVariants as T
use Rattle.markup.specs.declared.tags.TagKind.{TagKind}
use Rattle.markup.specs.declared.tags.TagKind.TheVariants as K
use Rattle.markup.specs.declared.texts.Mark.{Mark}
use Rattle.markup.specs.declared.texts.Mark.TheVariants as E

-- where the code's machine stands
abbrev pub standing : Tag → State
standing T.Name = in_name
standing T.Gap = in_gap
standing T.Word = in_word
standing T.Wait = in_wait
standing T.Value = at_value
standing T.InSingle = in_value apostrophe
standing T.InDouble = in_value quotation
standing T.Ended = at_ended
standing T.Slash = at_slash
standing T.EndFirst = end_first
standing T.EndName = end_name
standing T.EndGap = end_gap

abbrev pub kind_of : TagKind → Kind
kind_of K.Opening = opening
kind_of K.Empty = empty
kind_of K.Closing = closing

-- what a byte comes to there
abbrev pub move_of : Outcome → Move
move_of (O.GoesOn t) = on (standing t)
move_of (O.Ends k) = ended (kind_of k)
move_of O.Misfit = misfit

-- the answer of a run
abbrev pub scan_of : Result Ended Misread → Scan
scan_of (Ok e) = ends (kind_of e.kind) e.len
scan_of (Err R.CutShort) = cut_short
scan_of (Err (R.Misfit n)) = misfits n

-- what is looked for at the end of a comment or an instruction
abbrev pub mark_bytes : Mark → List ℕ
mark_bytes E.Comment = comment_end
mark_bytes E.Instruction = instruction_end

-- with n bytes before
abbrev pub shifted : ℕ → Scan → Scan
shifted n cut_short = cut_short
shifted n (ends k c) = ends k (n + c)
shifted n begins_none = begins_none
shifted n (misfits c) = misfits (n + c)

-- where w first stands in the bytes, of which the first is at the index n
abbrev pub first_from : List ℕ → ℕ → List ℕ → Option ℕ
first_from w n [] = None
first_from w n (b ∷ s) = cond (begins w (b ∷ s)) (Some n) (first_from w (n + 1) s)

-- a comment or an instruction whose end, of so many bytes, was found there
abbrev pub found_by : Kind → ℕ → Option ℕ → Scan
found_by k size None = cut_short
found_by k size (Some n) = ends k (n + size)

-- a byte of text
abbrev pub is_text : ℕ → Bool
is_text b = not (b == open_angle)
