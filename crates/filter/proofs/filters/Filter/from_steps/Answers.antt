use Rattle.std.proofs.Common.{◌≡◌, ◌∙◌, sym, ap, rules, tests}
use Rattle.std.proofs.lemmas.Grind.{common_steps}
use Rattle.std.proofs.lemmas.Iterator.{YieldsList-from_slice}
use Rattle.std.proofs.lemmas.Iterator.Search.{all_from_yields_List}
use Rattle.filter.specs.Filters.{are_tests, is_test}
use Rattle.rows.specs.Rows.{items_of}
use Rattle.filter.proofs.filters.Filter.from_steps.Goals as goal

pub invariant_of-result-clause-known : goal.invariant_of-result-clause-known
invariant_of-result-clause-known c =
    let given = c.args.given.now in
    let known = all_from_yields_List (λ s. is_test s.test) _ _ c.all.result c.all.ensures.ran (YieldsList-from_slice given cc) (λ x b q k. search (rules, tests)) in
    let same : items_of c.in_ok-steps.steps ≡ given = search (rules, common_steps) in
    ap are_tests same ∙ sym known ∙ c.if-not-all.false
