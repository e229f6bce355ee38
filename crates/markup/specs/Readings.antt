-- What the bytes of a message tell, by the names of a vocabulary: its events, and how it ends. Assumes nothing.
use Rattle.std.specs.Prelude.{◌≡◌, ℕ, ◌+◌, ◌≤◌, Bool, true, false, cond, List, [], ◌∷◌, ◌++◌, length, ◌==◌, nat_le}
use Rattle.std.specs.Str.{bytes_eq}
use Rattle.vocabulary.specs.declared.faults.Fault.{Fault}
use Rattle.vocabulary.specs.declared.faults.Question.{Question}
use Rattle.vocabulary.specs.declared.faults.Question.TheVariants.{TextSize, ByteOutsideRoot, NoMarkup, MarkupNotEnded, ByteMisfit, TagAfterRoot, TagTooDeep, EndTagUnmet, TextNotEnded}
use Rattle.vocabulary.specs.Faults.{fault}
use Rattle.vocabulary.specs.Limits.{most_open}
use Rattle.message.specs.declared.events.Event.{Event}
use Rattle.message.specs.declared.events.Event.TheVariants.{Start, End}
use Rattle.message.specs.Sources.{Ending, closed, faulted}
use Rattle.markup.specs.Bytes.{open_angle, white}
use Rattle.markup.specs.Grammar.{Kind, opening, empty, closing, comment, instruction}
use Rattle.markup.specs.Tags.{State, at_open, Move, on, ended, misplaced, misfit, after, name_in}
use Rattle.markup.specs.Documents.{Document, code_or_0, document_bytes, document_events, element_depth}

-- the bytes of a message at most
abbrev pub most_text : ℕ
most_text = 1048576

-- the names of the open elements, the innermost first, and whether the root has ended
pub record Stand : Type 0 where
  pub names : List (List ℕ)
  pub over : Bool

-- between two items, behind a `<` at a place (with the bytes since), or stopped by a fault
pub data Status : Type 0 where
  between : Stand → Status
  behind : Stand → ℕ → State → List ℕ → Status
  stopped : Fault → Status

-- what is told, and where the reading then stands
pub record Step : Type 0 where
  pub told : List Event
  pub next : Status

abbrev pub silent : Status → Step
silent s = record { told = []; next = s }

abbrev pub refuse : Question → ℕ → Step
refuse q n = silent (stopped (fault q n))

abbrev pub is_empty : List (List ℕ) → Bool
is_empty [] = true
is_empty (n ∷ ns) = false

-- with these names open; the root has ended if there are none
abbrev pub left : List (List ℕ) → Status
left ns = between (record { names = ns; over = is_empty ns })

-- a start tag at the place p that tells these events
abbrev pub started : Stand → ℕ → List Event → Status → Step
started st p es next = cond st.over (refuse TagAfterRoot p) (cond (nat_le most_open (length st.names)) (refuse TagTooDeep p) (record { told = es; next = next }))

-- an end tag at the place p with the name n
abbrev pub closed_by : List (List ℕ) → ℕ → List ℕ → Step
closed_by [] p n = refuse EndTagUnmet p
closed_by (m ∷ ms) p n = cond (bytes_eq m n) (record { told = End p ∷ []; next = left ms }) (refuse EndTagUnmet p)

-- the markup at the place p has ended, with the name n
abbrev pub acted : List (List ℕ) → Stand → ℕ → Kind → List ℕ → Step
acted voc st p opening n = started st p (Start (code_or_0 voc n) p ∷ []) (between (record { names = n ∷ st.names; over = false }))
acted voc st p empty n = started st p (Start (code_or_0 voc n) p ∷ End p ∷ []) (left st.names)
acted voc st p closing n = closed_by st.names p n
acted voc st p comment n = silent (between st)
acted voc st p instruction n = silent (between st)

-- the byte at the place n, which is the last of bs, came to this move of the markup at the place p
abbrev pub moved : List (List ℕ) → Stand → ℕ → ℕ → List ℕ → Move → Step
moved voc st p n bs (on s) = silent (behind st p s bs)
moved voc st p n bs (ended k) = acted voc st p k (name_in k bs)
moved voc st p n bs misplaced = refuse NoMarkup p
moved voc st p n bs misfit = refuse ByteMisfit n

-- a byte of text at the place n; outside the root it must be white space
abbrev pub texted : Stand → ℕ → ℕ → Step
texted st n b = cond (is_empty st.names) (cond (white b) (silent (between st)) (refuse ByteOutsideRoot n)) (silent (between st))

-- one byte, at the place n
abbrev pub step : List (List ℕ) → Status → ℕ → ℕ → Step
step voc (between st) n b = cond (b == open_angle) (silent (behind st n at_open [])) (texted st n b)
step voc (behind st p s bs) n b = moved voc st p n (bs ++ b ∷ []) (after s b)
step voc (stopped f) n b = silent (stopped f)

-- the events of the bytes from the place n on
abbrev pub events_from : List (List ℕ) → Status → ℕ → List ℕ → List Event
events_from voc s n [] = []
events_from voc s n (b ∷ bs) = (step voc s n b).told ++ events_from voc (step voc s n b).next (n + 1) bs

-- how it ends where the text does, at the place n
abbrev pub finally : Status → ℕ → Ending
finally (between st) n = cond st.over closed (faulted (fault TextNotEnded n))
finally (behind st p s bs) n = faulted (fault MarkupNotEnded p)
finally (stopped f) n = faulted f

abbrev pub ending_from : List (List ℕ) → Status → ℕ → List ℕ → Ending
ending_from voc s n [] = finally s n
ending_from voc s n (b ∷ bs) = ending_from voc (step voc s n b).next (n + 1) bs

-- before the root
abbrev pub beginning : Status
beginning = between (record { names = []; over = false })

-- the whole message
abbrev pub text_events : List (List ℕ) → List ℕ → List Event
text_events voc m = cond (nat_le (length m) most_text) (events_from voc beginning 0 m) []

abbrev pub text_ending : List (List ℕ) → List ℕ → Ending
text_ending voc m = cond (nat_le (length m) most_text) (ending_from voc beginning 0 m) (faulted (fault TextSize 0))

-- a message closes exactly when its bytes are those of a document, short and shallow enough, and its events are that document's
pub record Grammatical (voc : List (List ℕ)) : Type 0 where
  pub only : (m : List ℕ) → text_ending voc m ≡ closed → (d : Document) × (document_bytes d ≡ m) × (element_depth d.root ≤ most_open) × (length m ≤ most_text) × (document_events voc d ≡ text_events voc m)
  pub all : (d : Document) → element_depth d.root ≤ most_open → length (document_bytes d) ≤ most_text → (text_ending voc (document_bytes d) ≡ closed) × (text_events voc (document_bytes d) ≡ document_events voc d)
