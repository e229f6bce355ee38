use Rattle.std.proofs.Common.{◌≡◌, ◌+◌, false, [], length}
use Rattle.filter.specs.Walks.{steps_of, path_of}
use Rattle.message.specs.Passing.{walked}
use Rattle.message.proofs.hits.hit.Given as goal

abbrev pub invariant-loop-event : goal.invariant-loop-event
invariant-loop-event g l =
    let s = g.S.Source in
    let all = s.events l.initial.source in
    let es = s.events l.source in
    (l.walk.filter ≡ l.filter) ×
    (walked (steps_of l.filter) (path_of l.walk) l.found es ≡ walked (steps_of l.filter) [] false all) ×
    (s.ending l.source ≡ s.ending l.initial.source) ×
    (s.taken l.source + length es ≡ s.taken l.initial.source + length all)

abbrev pub decreases-loop-event : goal.decreases-loop-event
decreases-loop-event g l = length (g.S.Source.events l.source)
