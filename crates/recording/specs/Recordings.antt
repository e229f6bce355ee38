-- What a recording has still to tell. Assumes nothing.
use Rattle.std.specs.Prelude.{◌≡◌, ℕ, ◌+◌, Bool, cond, List, [], length, drop, nat_lt}
use Rattle.vocabulary.specs.declared.faults.Question.TheVariants.{RecordingSize}
use Rattle.vocabulary.specs.Faults.{fault}
use Rattle.message.specs.declared.events.Event.{Event}
use Rattle.message.specs.Sources.{Ending, faulted, Wellformed}
use Rattle.recording.specs.declared.words.Recording.{Recording}
use Rattle.recording.specs.Words.{most_words, events_from, ending_from}
use Rattle.recording.specs.Laws.{sound}

-- the events still to come, where `at` of the words were read, d elements are open and o says whether the root has ended
abbrev pub events_at : List ℕ → ℕ → ℕ → Bool → List Event
events_at ws at d o = cond (nat_lt most_words (length ws)) [] (events_from (at + 1) d o (drop at ws))

-- and how they end
abbrev pub ending_at : List ℕ → ℕ → ℕ → Bool → Ending
ending_at ws at d o = cond (nat_lt most_words (length ws)) (faulted (fault RecordingSize 0)) (ending_from (at + 1) d o (drop at ws))

-- the events that a recording has still to tell
abbrev pub events_of : Recording → List Event
events_of s = events_at s.words.now s.at s.depth s.over

-- and its ending
abbrev pub ending_of : Recording → Ending
ending_of s = ending_at s.words.now s.at s.depth s.over

-- one event was taken for each word
abbrev pub taken_of : Recording → ℕ
taken_of s = s.at

-- a recording of which nothing was taken is well formed
pub sound_of : (s : Recording) → taken_of s ≡ 0 → Wellformed (events_of s) (ending_of s)
sound_of s z = let d = (s.begun z).0 in let o = (s.begun z).1 in rw (z, d, o) (sound s.words.now)
