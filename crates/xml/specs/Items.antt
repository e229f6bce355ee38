-- What stands at a place of a message. Assumes nothing.
use Rattle.std.specs.Prelude.{◌≡◌, ◌∷◌, ℕ, ◌+◌, ◌-◌, ◌<◌, ◌≤◌, Bool, cond, List, length, take, drop, Ok, Err, Result, ◌==◌, slice_index}
use Rattle.std.specs.List.{prefix_len}
use Rattle.vocabulary.specs.declared.faults.Fault.{Fault}
use Rattle.vocabulary.specs.declared.faults.Question.TheVariants.{ByteOutsideRoot, NoMarkup, MarkupNotEnded, ByteMisfit}
use Rattle.vocabulary.specs.Faults.{fault}
use Rattle.vocabulary.specs.Names.{name_size}
use Rattle.markup.specs.Bytes.{open_angle, slash, name_start, white}
use Rattle.markup.specs.Runs.{is_text}
use Rattle.markup.specs.Tags.{State, at_open, in_order, in_remark, Scan, cut_short, ends, begins_none, misfits, scan_from}
use Rattle.markup.specs.declared.texts.Mark.{Mark}
use Rattle.markup.specs.declared.texts.Mark.TheVariants.{Comment, Instruction}
use Rattle.xml.specs.declared.items.Span.{Span}
use Rattle.xml.specs.declared.items.Piece.{Piece}
use Rattle.xml.specs.declared.items.Piece.TheVariants.{Quiet, Start, End}

-- the bytes of a span
abbrev pub cut : List ℕ → Span → List ℕ
cut m x = take (x.end - x.start) (drop x.start m)

-- a span holds one name
pub record IsName (m : List ℕ) (x : Span) : Type 0 where
  pub some : x.start < x.end
  pub inside : x.end ≤ length m
  pub spelt : x.end ≤ x.start + name_size (cut m x)

-- an end tag begins at the place p
pub record IsEndTag (m : List ℕ) (p : ℕ) : Type 0 where
  pub within : p + 2 ≤ length m
  pub slashed : drop (p + 1) m ≡ slash ∷ drop (p + 2) m

-- where the reading stands behind the beginning of a comment or an instruction
abbrev pub begun : Mark → State
begun Comment = in_remark
begun Instruction = in_order

-- a comment or an instruction at the place p that goes on so behind its `<`
abbrev pub piece_by : ℕ → Scan → Result Piece Fault
piece_by p cut_short = Err (fault MarkupNotEnded p)
piece_by p (ends k c) = Ok (Quiet (p + 1 + c))
piece_by p begins_none = Err (fault NoMarkup p)
piece_by p (misfits c) = Err (fault ByteMisfit (p + 1 + c))

-- the markup at the place p, with these bytes behind its `<`
abbrev pub piece_of : ℕ → List ℕ → Result Piece Fault
piece_of p s = cond (slice_index s 0 == slash) (Ok End) (cond (name_start (slice_index s 0)) (Ok Start) (piece_by p (scan_from at_open s)))

-- the text at the place p, inside the root or outside
abbrev pub text_of : Bool → ℕ → List ℕ → Result Piece Fault
text_of inside p s = cond inside (Ok (Quiet (p + prefix_len is_text s))) (cond (white (slice_index s 0)) (Ok (Quiet (p + 1))) (Err (fault ByteOutsideRoot p)))

-- what stands at the place p, where s are the bytes from there on
abbrev pub item_of : Bool → ℕ → List ℕ → Result Piece Fault
item_of inside p s = cond (slice_index s 0 == open_angle) (piece_of p (drop 1 s)) (text_of inside p s)
