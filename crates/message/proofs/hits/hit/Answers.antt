use Rattle.std.proofs.Common.{IfOk, Ok, Decides, sym, ap, ◌∙◌, subst}
use Rattle.std.proofs.lemmas.Bool.{eqb-true}
use Rattle.filter.specs.Walks.{steps_of, path_of}
use Rattle.message.specs.Elements.{Hits}
use Rattle.message.specs.Trees.{SelectedIn}
use Rattle.message.proofs.Answering.{walk_ends, answer_rule, answer_xpath}
use Rattle.message.proofs.hits.hit.Goals as goal

pub returns-clause-answer : goal.returns-clause-answer
returns-clause-answer g c =
    let s = g.S.Source in
    let source = c.args.source.now in
    let l = c.loop-event in
    walk_ends (steps_of c.args.filter.now) (s.taken source) (s.events source) (s.events l.source) (s.ending source) (s.ending l.source)
    (eqb-true _ 0 (sym c.if-not-is_fresh.ensures.answer)) (g.met.S.Source.sound source) (path_of l.walk) l.found
    (sym c.next.ensures.answer ∙ c.in_ok-event.was ∙ ap Ok c.in_default.is) l.invariant.2 l.invariant.1

pub returns-clause-rule : goal.returns-clause-rule
returns-clause-rule g c =
    let s = g.S.Source in
    let source = c.args.source.now in
    let ss = steps_of c.args.filter.now in
    subst (λ r. IfOk r (λ b. Decides b (Hits ss (s.events source)))) (sym (returns-clause-answer g c)) (answer_rule ss (s.taken source) (s.events source) (s.ending source))

pub returns-clause-xpath : goal.returns-clause-xpath
returns-clause-xpath g c =
    let s = g.S.Source in
    let source = c.args.source.now in
    let f = c.args.filter.now in
    let ss = steps_of f in
    subst (λ r. IfOk r (λ b. SelectedIn ss (s.events source) b)) (sym (returns-clause-answer g c)) (answer_xpath ss (s.taken source) (s.events source) (s.ending source) f.some (g.met.S.Source.sound source))
