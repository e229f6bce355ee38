use Rattle.std.proofs.Common.{[], ◌∷◌, ◌++◌, Decides, subst, arith}
use Rattle.std.proofs.lemmas.Grind.{common_steps}
use Rattle.filter.specs.Embedding.{Embeds}
use Rattle.filter.specs.Walks.{steps_of, path_of}
use Rattle.filter.proofs.Depths.{rule}
use Rattle.filter.proofs.Opens.{columns_push}
use Rattle.filter.proofs.walks.Walk.start.Goals as goal

pub invariant_of-self-2-clause-kept : goal.invariant_of-self-2-clause-kept
invariant_of-self-2-clause-kept c = columns_push _ _ _ _ _ _ c.args.code c.steps.ensures.answer c.as_slice.ensures.items (grind (arith, common_steps)) c.advance-hit.ensures.after

pub returns-clause-rule : goal.returns-clause-rule
returns-clause-rule c = λ _.
    let steps = steps_of c.args.self.now.filter in
    let path = path_of c.args.self.now ++ c.args.code ∷ [] in
    subst (λ b. Decides b (Embeds steps path)) (cc) (rule steps path)
