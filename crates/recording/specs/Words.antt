-- What the words of a recording tell. Assumes nothing.
use Rattle.std.specs.Prelude.{ℕ, pred, ◌+◌, ◌-◌, Bool, false, cond, List, [], ◌∷◌, length, Ok, Err, Result, ◌==◌, nat_le, nat_lt}
use Rattle.vocabulary.specs.declared.faults.Fault.{Fault}
use Rattle.vocabulary.specs.declared.faults.Question.TheVariants.{RecordingSize, WordTooGreat, WordAfterRoot, WordTooDeep, WordNoneOpen, RecordingNotEnded}
use Rattle.vocabulary.specs.Faults.{fault}
use Rattle.vocabulary.specs.Limits.{most_names, most_open}
use Rattle.message.specs.declared.events.Event.{Event}
use Rattle.message.specs.declared.events.Event.TheVariants.{Start, End}
use Rattle.message.specs.Sources.{Ending, closed, faulted}

-- the words of a recording at most
abbrev pub most_words : ℕ
most_words = 1048576

-- an event, or the fault that ends the message
abbrev pub Said : Type 0
Said = Result Event Fault

-- what the word w tells at the place p, where d elements are open and o says whether the root has ended
abbrev pub said : ℕ → ℕ → Bool → ℕ → Said
said p d o w =
    cond (nat_lt (most_names + 1) w) (Err (fault WordTooGreat p))
    (cond (w == 0) (cond (d == 0) (Err (fault WordNoneOpen p)) (Ok (End p)))
    (cond o (Err (fault WordAfterRoot p))
    (cond (nat_le most_open d) (Err (fault WordTooDeep p)) (Ok (Start (w - 1) p)))))

-- how many elements are open after the event
abbrev pub depth_after : ℕ → Event → ℕ
depth_after d (Start c p) = d + 1
depth_after d (End p) = pred d

-- whether the root has ended after the event
abbrev pub over_after : ℕ → Bool → Event → Bool
over_after d o (Start c p) = o
over_after d o (End p) = d == 1

-- an event and those after it, or none
abbrev pub events_on : Said → (Event → List Event) → List Event
events_on (Ok e) f = e ∷ f e
events_on (Err q) f = []

-- the ending after an event, or the fault
abbrev pub ending_on : Said → (Event → Ending) → Ending
ending_on (Ok e) f = f e
ending_on (Err q) f = faulted q

-- how a message ends after its last word, where p is the place after it
abbrev pub last_ending : ℕ → Bool → Ending
last_ending p o = cond o closed (faulted (fault RecordingNotEnded p))

-- what the words from the place p on tell
abbrev pub events_from : ℕ → ℕ → Bool → List ℕ → List Event
events_from p d o [] = []
events_from p d o (w ∷ ws) = events_on (said p d o w) (λ e. events_from (p + 1) (depth_after d e) (over_after d o e) ws)

-- and how they end
abbrev pub ending_from : ℕ → ℕ → Bool → List ℕ → Ending
ending_from p d o [] = last_ending p o
ending_from p d o (w ∷ ws) = ending_on (said p d o w) (λ e. ending_from (p + 1) (depth_after d e) (over_after d o e) ws)

-- the events of a recording: none, if it has too many words
abbrev pub word_events : List ℕ → List Event
word_events ws = cond (nat_lt most_words (length ws)) [] (events_from 1 0 false ws)

-- the ending of a recording
abbrev pub word_ending : List ℕ → Ending
word_ending ws = cond (nat_lt most_words (length ws)) (faulted (fault RecordingSize 0)) (ending_from 1 0 false ws)
