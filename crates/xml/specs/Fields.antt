-- Fields of a reader that may hold nothing. Assumes nothing.
use Rattle.std.specs.Prelude.{ℕ, List, [], ◌∷◌, Some, None, Option}
use Rattle.message.specs.declared.events.Event.{Event}
use Rattle.message.specs.declared.events.Event.TheVariants.{End}
use Rattle.xml.specs.declared.items.Span.{Span}

-- how many events the end of an empty tag owes
abbrev pub owed : Option ℕ → ℕ
owed None = 0
owed (Some p) = 1

-- and which
abbrev pub owed_events : Option ℕ → List Event
owed_events None = []
owed_events (Some p) = End p ∷ []

-- where a name begins and ends, 0 where there is none
abbrev pub start_of : Option Span → ℕ
start_of None = 0
start_of (Some x) = x.start

abbrev pub end_of : Option Span → ℕ
end_of None = 0
end_of (Some x) = x.end
