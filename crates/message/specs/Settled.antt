-- Examples that settle the rules of embeddings and of prefixes. Assumes nothing.
use Rattle.std.specs.Prelude.{◌≡◌, ℕ, Bool, true, false, not, ◌&&◌, List, [], ◌∷◌, ◌==◌}
use Rattle.filter.specs.declared.steps.Axis.TheVariants.{Child, Descendant}
use Rattle.filter.specs.declared.steps.Test.TheVariants.{Any, Code}
use Rattle.filter.specs.declared.steps.Step.{Step}
use Rattle.filter.specs.Prefixes.{prefix_count}
use Rattle.message.specs.Elements.{hits}
use Rattle.message.specs.Trees.{Tree, node, Trees, none, more, tree_events, select, document}

-- the codes of the vocabulary D, G, S, and of the name Z outside it
abbrev D : ℕ
D = 1

abbrev G : ℕ
G = 2

abbrev S : ℕ
S = 3

abbrev Z : ℕ
Z = 0

-- /code, //code, /*
abbrev child : ℕ → Step
child c = record { axis = Child; test = Code c }

abbrev below : ℕ → Step
below c = record { axis = Descendant; test = Code c }

abbrev star : Step
star = record { axis = Child; test = Any }

-- an element with these children
abbrev elem : ℕ → Trees → Tree
elem c kids = node c 0 0 kids

abbrev only : ℕ → Trees → Trees
only c kids = more (elem c kids) none

-- the steps hit the message or not; the filters have so many different prefixes
pub data Example : Type 0 where
  hitting : List Step → Tree → Bool → Example
  sharing : List (List Step) → ℕ → Example

abbrev pub examples : List Example
examples =
    hitting (child G ∷ []) (elem D (only G none)) false
    ∷ hitting (below G ∷ []) (elem D (only G none)) true
    ∷ hitting (child D ∷ below D ∷ []) (elem D none) false
    ∷ hitting (star ∷ []) (elem Z none) true
    ∷ hitting (child D ∷ star ∷ child S ∷ []) (elem D (only G (only S none))) true
    ∷ hitting (child D ∷ star ∷ child S ∷ []) (elem D (only S none)) false
    ∷ hitting (below G ∷ child S ∷ []) (elem G (only D (only G (only S none)))) true
    ∷ hitting (below G ∷ below S ∷ []) (elem D (more (elem G none) (only S none))) false
    ∷ sharing ((child D ∷ child G ∷ []) ∷ (child D ∷ child S ∷ []) ∷ []) 3
    ∷ sharing ((child D ∷ []) ∷ (below D ∷ []) ∷ []) 2
    ∷ []

abbrev same : Bool → Bool → Bool
same true b = b
same false b = not b

abbrev is_full : {X : Type 0} → List X → Bool
is_full [] = false
is_full (x ∷ xs) = true

-- by the paths of the elements and by XPath's selection
abbrev pub holds : Example → Bool
holds (hitting ss t b) = same b (hits ss (tree_events t)) && same b (is_full (select ss (document t)))
holds (sharing fs n) = prefix_count fs == n

abbrev pub all_hold : List Example → Bool
all_hold [] = true
all_hold (x ∷ xs) = holds x && all_hold xs

abbrev pub Settled : Type 0
Settled = all_hold examples ≡ true
