-- Recording a message, and reading the recording. Assumes nothing.
use Rattle.std.specs.Prelude.{◌≡◌, ℕ, ◌+◌, List, [], ◌∷◌}
use Rattle.message.specs.declared.events.Event.{Event}
use Rattle.message.specs.declared.events.Event.TheVariants.{Start, End}
use Rattle.message.specs.Sources.{closed, Wellformed}
use Rattle.recording.specs.Words.{word_events, word_ending}

-- the words of the events
abbrev pub recorded : List Event → List ℕ
recorded [] = []
recorded (Start c p ∷ es) = (c + 1) ∷ recorded es
recorded (End p ∷ es) = 0 ∷ recorded es

-- the events at the places of their words, the first at p
abbrev pub placed : ℕ → List Event → List Event
placed p [] = []
placed p (Start c q ∷ es) = Start c p ∷ placed (p + 1) es
placed p (End q ∷ es) = End p ∷ placed (p + 1) es

-- the words that close are those of the messages that a source may close
pub record Faithful : Type 0 where
  -- a recorded message closes, and reads as the same events
  pub replays : (es : List Event) → Wellformed es closed → (word_events (recorded es) ≡ placed 1 es) × (word_ending (recorded es) ≡ closed)
  -- words that close are the recording of what they tell
  pub exact : (ws : List ℕ) → word_ending ws ≡ closed → recorded (word_events ws) ≡ ws
