-- A message as a tree, and what a location path of XPath 1.0 selects in it: `/` is a child step, and `//` is
-- descendant-or-self followed by child. Assumes nothing.
use Rattle.std.specs.Prelude.{◌≡◌, ℕ, Bool, cond, List, [], ◌∷◌, ◌++◌, Decides}
use Rattle.std.specs.List.{flat_map}
use Rattle.filter.specs.declared.steps.Axis.{Axis}
use Rattle.filter.specs.declared.steps.Axis.TheVariants.{Child, Descendant}
use Rattle.filter.specs.declared.steps.Test.{Test}
use Rattle.filter.specs.declared.steps.Step.{Step}
use Rattle.filter.specs.Embedding.{fits}
use Rattle.message.specs.declared.events.Event.{Event}
use Rattle.message.specs.declared.events.Event.TheVariants.{Start, End}

-- an element: its code, the places of its start and of its end, and its children in order
mutual
  pub data Tree : Type 0 where
    node : ℕ → ℕ → ℕ → Trees → Tree

  pub data Trees : Type 0 where
    none : Trees
    more : Tree → Trees → Trees

abbrev pub code_of : Tree → ℕ
code_of (node c p q kids) = c

abbrev pub kids_of : Tree → Trees
kids_of (node c p q kids) = kids

-- the events of a tree, in document order
abbrev mutual
  pub tree_events : Tree → List Event
  tree_events (node c p q kids) = Start c p ∷ (trees_events kids ++ End q ∷ [])

  pub trees_events : Trees → List Event
  trees_events none = []
  trees_events (more t ts) = tree_events t ++ trees_events ts

abbrev pub children : Trees → List Tree
children none = []
children (more t ts) = t ∷ children ts

-- descendant-or-self::node()
abbrev mutual
  pub within : Tree → List Tree
  within (node c p q kids) = node c p q kids ∷ within_all kids

  pub within_all : Trees → List Tree
  within_all none = []
  within_all (more t ts) = within t ++ within_all ts

-- the nodes that pass the node test
abbrev pub passing : Test → List Tree → List Tree
passing t [] = []
passing t (n ∷ ns) = cond (fits t (code_of n)) (n ∷ passing t ns) (passing t ns)

-- child::node(), and descendant-or-self::node()/child::node()
abbrev pub along : Axis → Tree → List Tree
along Child n = children (kids_of n)
along Descendant n = flat_map (λ m. children (kids_of m)) (within n)

-- what the steps select from a context node
abbrev pub select : List Step → Tree → List Tree
select [] n = n ∷ []
select (s ∷ ss) n = flat_map (select ss) (passing s.test (along s.axis n))

-- the root node of the document, which is no element, above the root element; its own code is never looked at
abbrev pub document : Tree → Tree
document t = node 0 0 0 (more t none)

abbrev pub Nonempty : {X : Type 0} → List X → Type 0
Nonempty [] = ⊥
Nonempty (x ∷ xs) = Unit {0}

-- the events are those of a tree, and b tells whether the steps select one of its elements
abbrev pub SelectedIn : List Step → List Event → Bool → Type 0
SelectedIn ss es b = (t : Tree) × (tree_events t ≡ es) × Decides b (Nonempty (select ss (document t)))
