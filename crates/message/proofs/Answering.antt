-- What the answer about a source's message says of hits, and of the message's tree. Assumes nothing.
use Rattle.std.proofs.Common.{◌≡◌, ℕ, ◌<◌, Bool, true, false, cond, eqb, List, [], ◌∷◌, length, IfOk, None, Ok, Err, Decides, Result, sym, refl, ap, ◌∙◌}
use Rattle.std.proofs.lemmas.Bool.{eqb-true}
use Rattle.vocabulary.specs.Faults.{fault}
use Rattle.vocabulary.specs.declared.faults.Fault.{Fault}
use Rattle.vocabulary.specs.declared.faults.Question.TheVariants.{SourceNotFresh}
use Rattle.filter.specs.declared.steps.Step.{Step}
use Rattle.message.specs.declared.events.Event.{Event}
use Rattle.message.specs.Sources.{Ending, closed, faulted, told, Wellformed}
use Rattle.message.specs.Answers.{at_ending, hit_answer}
use Rattle.message.specs.Elements.{Hits, hits}
use Rattle.message.specs.Passing.{walked}
use Rattle.message.specs.Trees.{SelectedIn}
use Rattle.message.proofs.Runs.{walked_hits, hits_decides}
use Rattle.message.proofs.Parses.{selected}

-- by cases, whether the source is fresh
fresh_or_not : (taken : ℕ) (P : Bool → Type 0) → (taken ≡ 0 → P true) → P false → P (eqb taken 0)
fresh_or_not taken P fresh other = by_test (eqb taken 0) refl
  where
    by_test : (t : Bool) → eqb taken 0 ≡ t → P t
    by_test true e = fresh (eqb-true taken 0 e)
    by_test false e = other

-- at the ending of a fresh source
ending_rule : (ss : List Step) (es : List Event) (e : Ending) → IfOk (at_ending e (hits ss es)) (λ b. Decides b (Hits ss es))
ending_rule ss es closed = hits_decides ss es
ending_rule ss es (faulted f) = tt

ending_xpath : (ss : List Step) → 0 < length ss → (es : List Event) (e : Ending) → Wellformed es e → IfOk (at_ending e (hits ss es)) (λ b. SelectedIn ss es b)
ending_xpath ss some es closed w = selected ss some es w.nested (w.whole refl)
ending_xpath ss some es (faulted f) w = tt

module _ (ss : List Step) (taken : ℕ) (es : List Event) (e : Ending) where
  abbrev asked : Bool → Bool → Result Bool Fault
  asked fresh b = cond fresh (at_ending e b) (Err (fault SourceNotFresh 0))

  pub same_answer : (taken ≡ 0 → Wellformed es e) → asked (eqb taken 0) (walked ss [] false es) ≡ hit_answer ss taken es e
  same_answer sound =
      fresh_or_not taken (λ t. asked t (walked ss [] false es) ≡ asked t (hits ss es)) (λ fresh. ap (at_ending e) (walked_hits ss [] false es (sound fresh).nested)) refl

  pub answer_rule : IfOk (hit_answer ss taken es e) (λ b. Decides b (Hits ss es))
  answer_rule = fresh_or_not taken (λ t. IfOk (asked t (hits ss es)) (λ b. Decides b (Hits ss es))) (λ fresh. ending_rule ss es e) tt

  pub answer_xpath : 0 < length ss → (taken ≡ 0 → Wellformed es e) → IfOk (hit_answer ss taken es e) (λ b. SelectedIn ss es b)
  answer_xpath some sound = fresh_or_not taken (λ t. IfOk (asked t (hits ss es)) (λ b. SelectedIn ss es b)) (λ fresh. ending_xpath ss some es e (sound fresh)) tt

-- a source that tells no event tells that the message is closed
told_none : (es : List Event) (e : Ending) → told es e ≡ Ok None → (es ≡ []) × (e ≡ closed)
told_none [] closed h = (refl, refl)
told_none [] (faulted f) h = absurd cc
told_none (x ∷ xs) e h = absurd cc

-- a walk along the whole of a fresh source has the answer
module _ (ss : List Step) (taken : ℕ) (all es : List Event) (e e' : Ending) (fresh : taken ≡ 0) (sound : taken ≡ 0 → Wellformed all e) (path : List ℕ) (found : Bool) where
  pub walk_ends : told es e' ≡ Ok None → e' ≡ e → walked ss path found es ≡ walked ss [] false all → Ok found ≡ hit_answer ss taken all e
  walk_ends none kept along =
      let t = told_none es e' none in
      let is : found ≡ walked ss [] false all = sym (ap (walked ss path found) t.0) ∙ along in
      let shut : e ≡ closed = sym kept ∙ t.1 in
      ap (λ b. Ok b) is ∙ sym (λ i. cond (eqb (fresh i) 0) (at_ending (shut i) (walked ss [] false all)) (Err (fault SourceNotFresh 0))) ∙ same_answer ss taken all e sound
