-- The elements of a message, and when a filter hits it. Assumes nothing.
use Rattle.std.specs.Prelude.{ℕ, ◌-◌, Bool, false, ◌||◌, ◌⊎◌, List, [], ◌∷◌, ◌++◌, length, take}
use Rattle.filter.specs.declared.steps.Step.{Step}
use Rattle.filter.specs.Embedding.{embeds, Embeds}
use Rattle.message.specs.declared.events.Event.{Event}
use Rattle.message.specs.declared.events.Event.TheVariants.{Start, End}

-- the path without its last code
abbrev pub outer : List ℕ → List ℕ
outer path = take (length path - 1) path

-- the path of each element that the events start, in message order, where `path` is open before them
abbrev pub paths : List ℕ → List Event → List (List ℕ)
paths path [] = []
paths path (Start c p ∷ es) = (path ++ c ∷ []) ∷ paths (path ++ c ∷ []) es
paths path (End p ∷ es) = paths (outer path) es

-- one of the list
abbrev pub OneOf : {X : Type 0} → (X → Type 0) → List X → Type 0
OneOf P [] = ⊥
OneOf P (x ∷ xs) = P x ⊎ OneOf P xs

-- the filter hits the message: it embeds at one of its elements
abbrev pub Hits : List Step → List Event → Type 0
Hits ss es = ∥ OneOf (λ path. Embeds ss path) (paths [] es) ∥₁

-- the same as a test, where `path` is open before the events
abbrev pub hits_from : List Step → List ℕ → List Event → Bool
hits_from ss path [] = false
hits_from ss path (Start c p ∷ es) = embeds ss (path ++ c ∷ []) || hits_from ss (path ++ c ∷ []) es
hits_from ss path (End p ∷ es) = hits_from ss (outer path) es

abbrev pub hits : List Step → List Event → Bool
hits ss es = hits_from ss [] es
