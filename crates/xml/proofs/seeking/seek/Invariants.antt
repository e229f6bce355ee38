-- What stands before the place tells nothing. Assumes nothing.
use Rattle.std.proofs.Common.{◌≡◌, ℕ, ◌-◌, ◌≤◌, not, List, length}
use Rattle.markup.specs.Readings.{Stand, is_empty}
use Rattle.xml.proofs.Quiet.{events_in, ending_in}
use Rattle.xml.proofs.seeking.seek.Given as goal

abbrev pub invariant-loop-place : goal.invariant-loop-place
invariant-loop-place l =
    (l.start ≤ l.place)
    × (l.place ≤ length l.message)
    × ((voc : List (List ℕ)) (st : Stand) → is_empty st.names ≡ not l.inside → (events_in voc st l.message l.start ≡ events_in voc st l.message l.place) × (ending_in voc st l.message l.start ≡ ending_in voc st l.message l.place))

abbrev pub decreases-loop-place : goal.decreases-loop-place
decreases-loop-place l = length l.message - l.place
