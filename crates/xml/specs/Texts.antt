-- What a reader has still to tell, and a turn of it. Assumes nothing.
use Rattle.std.specs.Prelude.{◌≡◌, ℕ, ◌+◌, Bool, false, cond, leb, List, [], ◌++◌, map, reverse, length, drop, Some, None, Ok, Err, Option, Result, nat_le}
use Rattle.std.proofs.Common.{sym, ap, subst}
use Rattle.std.specs.Borrow.{Bor}
use Rattle.std.specs.Option.{option_map}
use Rattle.rows.specs.Rows.{items_of}
use Rattle.vocabulary.specs.declared.faults.Fault.{Fault}
use Rattle.vocabulary.specs.declared.faults.Question.TheVariants.{TextSize}
use Rattle.vocabulary.specs.Faults.{fault}
use Rattle.vocabulary.specs.Readings.{names_of}
use Rattle.vocabulary.proofs.Counts.{names_few}
use Rattle.message.specs.declared.events.Event.{Event}
use Rattle.message.specs.declared.events.Event.TheVariants.{Start, End}
use Rattle.message.specs.Sources.{Ending, faulted, told, rest, counted, Wellformed}
use Rattle.markup.specs.Bytes.{name_byte, front}
use Rattle.markup.specs.Documents.{code_or_0}
use Rattle.markup.specs.Readings.{most_text, Stand, between, events_from, ending_from}
use Rattle.xml.specs.declared.items.Span.{Span}
use Rattle.xml.specs.declared.texts.TextReader.{TextReader}
use Rattle.markup.specs.Laws.{sound}
use Rattle.xml.specs.Fields.{owed_events}
use Rattle.xml.specs.Items.{cut}

-- the names of the open elements, the innermost first
abbrev pub names_at : List ℕ → List Span → List (List ℕ)
names_at m xs = map (cut m) (reverse xs)

abbrev pub stand_at : List (List ℕ) → Bool → Stand
stand_at ns o = record { names = ns; over = o }

-- the events still to come, where the message was read up to the place n
abbrev pub coming_at : List (List ℕ) → List ℕ → Option ℕ → Stand → ℕ → List Event
coming_at voc m q st n = owed_events q ++ events_from voc (between st) n (drop n m)

-- and how they end
abbrev pub final_at : List (List ℕ) → List ℕ → Stand → ℕ → Ending
final_at voc m st n = ending_from voc (between st) n (drop n m)

abbrev pub bytes_of : TextReader → List ℕ
bytes_of s = s.message.now

abbrev pub codes_of : TextReader → List (List ℕ)
codes_of s = names_of s.vocabulary.now

abbrev pub open_names : TextReader → List (List ℕ)
open_names s = names_at (bytes_of s) (items_of s.spans)

abbrev pub stand_of : TextReader → Stand
stand_of s = stand_at (open_names s) s.over

-- the same of a reader whose message is not too long
abbrev pub coming_of : TextReader → List Event
coming_of s = coming_at (codes_of s) (bytes_of s) s.pending (stand_of s) s.place

abbrev pub final_of : TextReader → Ending
final_of s = final_at (codes_of s) (bytes_of s) (stand_of s) s.place

-- the events that a reader has still to tell
abbrev pub events_of : TextReader → List Event
events_of s = cond (nat_le (length (bytes_of s)) most_text) (coming_of s) []

-- and its ending
abbrev pub ending_of : TextReader → Ending
ending_of s = cond (nat_le (length (bytes_of s)) most_text) (final_of s) (faulted (fault TextSize 0))

abbrev pub taken_of : TextReader → ℕ
taken_of s = s.taken

-- the name of the latest start, with its place
abbrev pub spelt : List ℕ → Span → ℕ × List ℕ
spelt m x = (x.start, cut m x)

-- a name that is handed out
abbrev pub held : ℕ × Bor (List ℕ) → ℕ × List ℕ
held x = (x.0, x.1.now)

abbrev pub latest_of : TextReader → Option (ℕ × List ℕ)
latest_of s = option_map (spelt (bytes_of s)) s.latest

abbrev pub Answer : Type 0
Answer = Result (Option Event) Fault

-- the name that stands behind the `<` at the place p
abbrev pub name_behind : List ℕ → ℕ → List ℕ
name_behind m p = front name_byte (drop (p + 1) m)

-- a start at the place p has the name behind its `<`; any other answer leaves the latest
abbrev pub latest_after : List ℕ → Answer → Option (ℕ × List ℕ) → Option (ℕ × List ℕ)
latest_after m (Err f) x = x
latest_after m (Ok None) x = x
latest_after m (Ok (Some (Start c p))) x = Some (p + 1, name_behind m p)
latest_after m (Ok (Some (End p))) x = x

-- the code of a start is that of its name
abbrev pub CodeOf : List (List ℕ) → List ℕ → Answer → Type 0
CodeOf voc m (Err f) = Unit {0}
CodeOf voc m (Ok None) = Unit {0}
CodeOf voc m (Ok (Some (Start c p))) = c ≡ code_or_0 voc (name_behind m p)
CodeOf voc m (Ok (Some (End p))) = Unit {0}

-- the answer r takes the reader from s to s'
pub record Turn (s : TextReader) (r : Answer) (s' : TextReader) : Type 0 where
  pub answer : r ≡ told (coming_of s) (final_of s)
  pub left : coming_of s' ≡ rest (coming_of s)
  pub ending : final_of s' ≡ final_of s
  pub taken : s'.taken ≡ counted (coming_of s) s.taken
  pub message : bytes_of s' ≡ bytes_of s
  pub latest : latest_of s' ≡ latest_after (bytes_of s) r (latest_of s)
  pub code : CodeOf (codes_of s) (bytes_of s) r

-- a reader of which nothing was taken is well formed
pub sound_of : (s : TextReader) → taken_of s ≡ 0 → Wellformed (events_of s) (ending_of s)
sound_of s z =
    let b = s.begun z in
    let m = bytes_of s in
    let voc = codes_of s in
    let none : open_names s ≡ [] = ap (names_at m) b.1 in
    let st : stand_of s ≡ stand_at [] false = λ i. stand_at (none i) (b.2 i) in
    let es : coming_of s ≡ coming_at voc m None (stand_at [] false) 0 = λ i. coming_at voc m (b.3 i) (st i) (b.0 i) in
    let e : final_of s ≡ final_at voc m (stand_at [] false) 0 = λ i. final_at voc m (st i) (b.0 i) in
    let t = sound voc m (names_few s.vocabulary.now) in
    let long = leb (length m) most_text in
    subst (λ x. Wellformed (cond long x []) (ending_of s)) (sym es)
    (subst (λ x. Wellformed (cond long (coming_at voc m None (stand_at [] false) 0) []) (cond long x (faulted (fault TextSize 0)))) (sym e) t)
