-- What a source tells, and what every fresh source keeps. Assumes nothing.
use Rattle.std.specs.Prelude.{◌≡◌, ℕ, pred, ◌+◌, ◌<◌, ◌≤◌, List, [], ◌∷◌, length, take, Some, None, Ok, Err, Option, Result}
use Rattle.vocabulary.specs.Limits.{most_names, most_open}
use Rattle.vocabulary.specs.declared.faults.Fault.{Fault}
use Rattle.message.specs.declared.events.Event.{Event}
use Rattle.message.specs.declared.events.Event.TheVariants.{Start, End}

-- how a message ends: closed, or with a fault
pub data Ending : Type 0 where
  closed : Ending
  faulted : Fault → Ending

abbrev pub last_told : Ending → Result (Option Event) Fault
last_told closed = Ok None
last_told (faulted f) = Err f

-- the first event, or the ending where there is none
abbrev pub told : List Event → Ending → Result (Option Event) Fault
told [] e = last_told e
told (x ∷ xs) e = Ok (Some x)

-- the events after the first
abbrev pub rest : List Event → List Event
rest [] = []
rest (x ∷ xs) = xs

-- n and one more, if there is an event
abbrev pub counted : List Event → ℕ → ℕ
counted [] n = n
counted (x ∷ xs) n = n + 1

-- the events of a message at most
abbrev pub most_events : ℕ
most_events = 1048576

-- ends never outnumber starts, and at most 32 elements are open, where d are open before
abbrev pub Nested : ℕ → List Event → Type 0
Nested d [] = Unit {0}
Nested d (Start c p ∷ es) = (d < most_open) × Nested (d + 1) es
Nested d (End p ∷ es) = (0 < d) × Nested (pred d) es

-- each code is at most 512
abbrev pub Coded : List Event → Type 0
Coded [] = Unit {0}
Coded (Start c p ∷ es) = (c ≤ most_names) × Coded es
Coded (End p ∷ es) = Coded es

-- how many are open after the events, where d are before
abbrev pub depth : ℕ → List Event → ℕ
depth d [] = d
depth d (Start c p ∷ es) = depth (d + 1) es
depth d (End p ∷ es) = depth (pred d) es

-- there is a last event, and it ends the element that the first one started
pub record Whole (es : List Event) : Type 0 where
  pub some : 0 < length es
  pub shut : depth 0 es ≡ 0
  pub inside : (k : ℕ) → 0 < k → k < length es → 0 < depth 0 (take k es)

-- what every fresh source keeps
pub record Wellformed (es : List Event) (e : Ending) : Type 0 where
  pub few : length es ≤ most_events
  pub nested : Nested 0 es
  pub coded : Coded es
  pub whole : e ≡ closed → Whole es
