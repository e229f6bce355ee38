-- What passing events on to a walk comes to. Assumes nothing.
use Rattle.std.specs.Prelude.{ℕ, Bool, false, cond, ◌||◌, List, [], ◌∷◌, ◌++◌, length, nat_lt}
use Rattle.vocabulary.specs.Limits.{most_open}
use Rattle.filter.specs.declared.steps.Step.{Step}
use Rattle.filter.specs.Embedding.{embeds}
use Rattle.message.specs.declared.events.Event.{Event}
use Rattle.message.specs.declared.events.Event.TheVariants.{Start, End}
use Rattle.message.specs.Elements.{outer}

-- whether the steps embed at the element that the event starts; a walk takes no more than 32
abbrev pub embeds_at : List Step → List ℕ → Event → Bool
embeds_at ss path (Start c p) = cond (nat_lt (length path) most_open) (embeds ss (path ++ c ∷ [])) false
embeds_at ss path (End p) = false

-- the path after the event
abbrev pub path_after : List ℕ → Event → List ℕ
path_after path (Start c p) = cond (nat_lt (length path) most_open) (path ++ c ∷ []) path
path_after path (End p) = outer path

-- whether the steps were found to embed, before the events or at one that they start
abbrev pub walked : List Step → List ℕ → Bool → List Event → Bool
walked ss path found [] = found
walked ss path found (x ∷ es) = walked ss (path_after path x) (found || embeds_at ss path x) es
