-- A walk along the events of a message finds what the test of hits tells, and the test decides the rule. Assumes nothing.
use Rattle.std.proofs.Common.{◌≡◌, ℕ, pred, ◌-◌, Bool, true, false, ◌||◌, List, [], ◌∷◌, ◌++◌, length, Decides, sym, ap, ◌∙◌, subst, ⊎_elim, arith, length-take-le}
use mathlib.Core.Logic.{⊎_map, ∥∥₁_elim}
use mathlib.Core.Bool.{or-false, or_assoc, Bool-set}
use Rattle.std.proofs.lemmas.List.{length_push}
use Rattle.std.proofs.lemmas.Bool.{or_cases, or_left, or_right, lt-ltb, cond-true, false≢true}
use Rattle.vocabulary.specs.Limits.{most_open}
use Rattle.filter.specs.declared.steps.Step.{Step}
use Rattle.filter.specs.Embedding.{embeds, Embeds}
use Rattle.filter.proofs.Depths.{rule}
use Rattle.message.specs.declared.events.Event.{Event}
use Rattle.message.specs.declared.events.Event.TheVariants.{Start, End}
use Rattle.message.specs.Sources.{Nested}
use Rattle.message.specs.Elements.{outer, paths, OneOf, Hits, hits_from, hits}
use Rattle.message.specs.Passing.{walked}

outer_length : (path : List ℕ) → length (outer path) ≡ pred (length path)
outer_length path = length-take-le (length path - 1) path (omega arith) ∙ omega arith

-- where all is nested, each start has room
pub walked_hits : (ss : List Step) (path : List ℕ) (found : Bool) (es : List Event) → Nested (length path) es → walked ss path found es ≡ (found || hits_from ss path es)
walked_hits ss path found [] n = sym (or-false found)
walked_hits ss path found (Start c p ∷ es) n =
    let deeper = path ++ c ∷ [] in
    let room = lt-ltb (length path) most_open n.0 in
    (λ i. walked ss (cond-true _ deeper path room i) (found || cond-true _ (embeds ss deeper) false room i) es)
    ∙ walked_hits ss deeper (found || embeds ss deeper) es (subst (λ d. Nested d es) (sym (length_push path c)) n.1)
    ∙ or_assoc found (embeds ss deeper) (hits_from ss deeper es)
walked_hits ss path found (End p ∷ es) n =
    walked_hits ss (outer path) (found || false) es (subst (λ d. Nested d es) (sym (outer_length path)) n.1)
    ∙ ap (λ b. b || hits_from ss (outer path) es) (or-false found)

-- the test decides the rule
hits_sound : (ss : List Step) (path : List ℕ) (es : List Event) → hits_from ss path es ≡ true → OneOf (λ q. Embeds ss q) (paths path es)
hits_sound ss path [] h = false≢true h
hits_sound ss path (Start c p ∷ es) h =
    let deeper = path ++ c ∷ [] in
    ⊎_map (rule ss deeper).0 (hits_sound ss deeper es) (or_cases (embeds ss deeper) (hits_from ss deeper es) h)
hits_sound ss path (End p ∷ es) h = hits_sound ss (outer path) es h

hits_complete : (ss : List Step) (path : List ℕ) (es : List Event) → OneOf (λ q. Embeds ss q) (paths path es) → hits_from ss path es ≡ true
hits_complete ss path [] h = absurd h
hits_complete ss path (Start c p ∷ es) h =
    let deeper = path ++ c ∷ [] in
    ⊎_elim
    (λ x. or_left (embeds ss deeper) (hits_from ss deeper es) ((rule ss deeper).1 x))
    (λ x. or_right (embeds ss deeper) (hits_from ss deeper es) (hits_complete ss deeper es x))
    h
hits_complete ss path (End p ∷ es) h = hits_complete ss (outer path) es h

pub hits_decides : (ss : List Step) (es : List Event) → Decides (hits ss es) (Hits ss es)
hits_decides ss es = (λ h. ∣ hits_sound ss [] es h ∣₁, λ h. ∥∥₁_elim h (Bool-set (hits ss es) true) (hits_complete ss [] es))
