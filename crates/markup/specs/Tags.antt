-- The machine that reads what stands behind a `<`, byte by byte, to its end. Assumes nothing.
use Rattle.std.specs.Prelude.{ℕ, suc, cond, List, [], ◌∷◌, drop, ◌==◌}
use Rattle.markup.specs.Bytes.{open_angle, close_angle, slash, equals, bang, dash, ask, apostrophe, quotation, name_start, name_byte, white, front}
use Rattle.markup.specs.Grammar.{Kind, opening, empty, closing, comment, instruction}

-- where the reading stands inside the markup
pub data State : Type 0 where
  at_open in_name in_gap in_word in_wait at_value at_ended at_slash end_first end_name end_gap at_bang at_bang_dash in_remark one_dash two_dashes in_order asking : State
  in_value : ℕ → State

-- what a byte comes to: the markup goes on, it ends, nothing that may begin begins here, or the byte does not fit
pub data Move : Type 0 where
  on : State → Move
  ended : Kind → Move
  misplaced : Move
  misfit : Move

-- behind a name, a gap or a value of a start tag
abbrev pub leave : ℕ → Move
leave b = cond (white b) (on in_gap) (cond (b == slash) (on at_slash) (cond (b == close_angle) (ended opening) misfit))

-- behind the name of an attribute
abbrev pub wait : ℕ → Move
wait b = cond (white b) (on in_wait) (cond (b == equals) (on at_value) misfit)

-- behind the name of an end tag
abbrev pub end_leave : ℕ → Move
end_leave b = cond (white b) (on end_gap) (cond (b == close_angle) (ended closing) misfit)

abbrev pub after : State → ℕ → Move
after at_open b = cond (name_start b) (on in_name) (cond (b == slash) (on end_first) (cond (b == bang) (on at_bang) (cond (b == ask) (on in_order) misplaced)))
after in_name b = cond (name_byte b) (on in_name) (leave b)
after in_gap b = cond (name_start b) (on in_word) (leave b)
after in_word b = cond (name_byte b) (on in_word) (wait b)
after in_wait b = wait b
after at_value b = cond (white b) (on at_value) (cond (b == apostrophe) (on (in_value apostrophe)) (cond (b == quotation) (on (in_value quotation)) misfit))
after (in_value q) b = cond (b == q) (on at_ended) (cond (b == open_angle) misfit (on (in_value q)))
after at_ended b = leave b
after at_slash b = cond (b == close_angle) (ended empty) misfit
after end_first b = cond (name_start b) (on end_name) misfit
after end_name b = cond (name_byte b) (on end_name) (end_leave b)
after end_gap b = end_leave b
after at_bang b = cond (b == dash) (on at_bang_dash) misplaced
after at_bang_dash b = cond (b == dash) (on in_remark) misplaced
after in_remark b = cond (b == dash) (on one_dash) (on in_remark)
after one_dash b = cond (b == dash) (on two_dashes) (on in_remark)
after two_dashes b = cond (b == close_angle) (ended comment) (cond (b == dash) (on two_dashes) (on in_remark))
after in_order b = cond (b == ask) (on asking) (on in_order)
after asking b = cond (b == close_angle) (ended instruction) (cond (b == ask) (on asking) (on in_order))

-- the name in the bytes behind a `<`
abbrev pub name_in : Kind → List ℕ → List ℕ
name_in opening bs = front name_byte bs
name_in empty bs = front name_byte bs
name_in closing bs = front name_byte (drop 1 bs)
name_in comment bs = []
name_in instruction bs = []

-- how markup goes on from a state: it is cut short by the text's end, it ends after so many bytes, nothing that may
-- begin begins, or the byte after so many does not fit
pub data Scan : Type 0 where
  cut_short : Scan
  ends : Kind → ℕ → Scan
  begins_none : Scan
  misfits : ℕ → Scan

-- the same with one byte before
abbrev pub later : Scan → Scan
later cut_short = cut_short
later (ends k n) = ends k (suc n)
later begins_none = begins_none
later (misfits n) = misfits (suc n)

abbrev pub scan_by : Move → (State → Scan) → Scan
scan_by (on s) f = later (f s)
scan_by (ended k) f = ends k 1
scan_by misplaced f = begins_none
scan_by misfit f = misfits 0

abbrev pub scan_from : State → List ℕ → Scan
scan_from s [] = cut_short
scan_from s (b ∷ bs) = scan_by (after s b) (λ t. scan_from t bs)
