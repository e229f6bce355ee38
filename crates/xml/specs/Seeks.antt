-- What comes first from a place on that is no text, comment or instruction, and that what stands before it tells
-- nothing. Assumes nothing.
use Rattle.std.specs.Prelude.{◌≡◌, ℕ, ◌+◌, ◌<◌, ◌≤◌, Bool, not, List, [], length, drop, Some, None, Ok, Err, Option, Result}
use Rattle.vocabulary.specs.declared.faults.Fault.{Fault}
use Rattle.vocabulary.specs.Names.{name_size}
use Rattle.message.specs.Sources.{faulted}
use Rattle.markup.specs.Readings.{Stand, between, is_empty, events_from, ending_from, finally}
use Rattle.markup.specs.Tags.{at_open, scan_from}
use Rattle.markup.specs.Tellings.{events_by, ending_by}
use Rattle.xml.specs.Items.{IsEndTag}
use Rattle.xml.specs.declared.seeking.Sought.{Sought}
use Rattle.xml.specs.declared.seeking.Sought.TheVariants.{Start, End}

-- where it stands
abbrev pub SoughtIn : List ℕ → ℕ → Result (Option Sought) Fault → Type 0
SoughtIn m n (Err f) = Unit {0}
SoughtIn m n (Ok (Some (Start at))) = (at.message.now ≡ m) × (n ≤ at.place) × (0 < name_size (drop (at.place + 1) at.message.now))
SoughtIn m n (Ok (Some (End at))) = (at.message.now ≡ m) × (n ≤ at.place) × IsEndTag at.message.now at.place
SoughtIn m n (Ok None) = Unit {0}

-- the markup at the place p tells all that the message tells from n on, where the reading stands so
abbrev pub Onwards : List (List ℕ) → Stand → List ℕ → ℕ → ℕ → Type 0
Onwards voc st m n p =
    (events_from voc (between st) n (drop n m) ≡ events_by voc st p [] (p + 1) (drop (p + 1) m) (scan_from at_open (drop (p + 1) m)))
    × (ending_from voc (between st) n (drop n m) ≡ ending_by voc st p [] (p + 1) (drop (p + 1) m) (scan_from at_open (drop (p + 1) m)))

-- nothing is told from n on, and how it ends
abbrev pub SoughtBy : List (List ℕ) → Stand → List ℕ → ℕ → Result (Option Sought) Fault → Type 0
SoughtBy voc st m n (Err f) = (events_from voc (between st) n (drop n m) ≡ []) × (ending_from voc (between st) n (drop n m) ≡ faulted f)
SoughtBy voc st m n (Ok (Some (Start at))) = Onwards voc st m n at.place
SoughtBy voc st m n (Ok (Some (End at))) = Onwards voc st m n at.place
SoughtBy voc st m n (Ok None) = (events_from voc (between st) n (drop n m) ≡ []) × (ending_from voc (between st) n (drop n m) ≡ finally (between st) (length m))

-- whatever the vocabulary and the open names
abbrev pub SoughtTold : List ℕ → ℕ → Bool → Result (Option Sought) Fault → Type 0
SoughtTold m n inside r = (voc : List (List ℕ)) (st : Stand) → is_empty st.names ≡ not inside → SoughtBy voc st m n r
