-- A closed message is a tree, in which XPath selects an element exactly where the filter hits. Assumes nothing.
use Rattle.std.proofs.Common.{◌≡◌, ℕ, zero, suc, pred, ◌+◌, ◌<◌, ◌≤◌, List, [], ◌∷◌, ◌++◌, length, take, sym, refl, ap, ◌∙◌, subst, append_assoc, append-nil, add-one, arith, length-append}
use lib.Seq.{take-append_seam}
use Rattle.filter.specs.declared.steps.Step.{Step}
use Rattle.message.specs.declared.events.Event.{Event}
use Rattle.message.specs.declared.events.Event.TheVariants.{Start, End}
use Rattle.message.specs.Sources.{Nested, depth, Whole}
use Rattle.message.specs.Elements.{Hits, hits}
use Rattle.message.specs.Trees.{Tree, node, Trees, none, more, tree_events, trees_events, SelectedIn}
use Rattle.message.proofs.Runs.{hits_decides}
use Rattle.message.proofs.Selecting.{select_hits, hits_select}

-- what comes after the trees, where d are open: nothing, or the end of the innermost
abbrev Stops : ℕ → List Event → Type 0
Stops zero rest = rest ≡ []
Stops (suc d) rest = (q : ℕ) × (left : List Event) × (rest ≡ End q ∷ left) × Nested d left × (depth d left ≡ 0)

-- the events are those of trees, and then what stops them
record Parsed (d : ℕ) (es : List Event) : Type 0 where
  trees : Trees
  rest : List Event
  same : es ≡ trees_events trees ++ rest
  stops : Stops d rest

-- a tree and the trees after it, from their parts
regroup : (kids ts : Trees) (q : ℕ) (left rest : List Event) → left ≡ trees_events ts ++ rest → trees_events kids ++ End q ∷ left ≡ ((trees_events kids ++ End q ∷ []) ++ trees_events ts) ++ rest
regroup kids ts q left rest e =
    ap (λ l. trees_events kids ++ End q ∷ l) e
    ∙ sym (append_assoc (trees_events kids ++ End q ∷ []) (trees_events ts) rest ∙ append_assoc (trees_events kids) (End q ∷ []) (trees_events ts ++ rest))

parse : (most d : ℕ) (es : List Event) → length es ≤ most → Nested d es → depth d es ≡ 0 → Parsed d es
parse most zero [] l n z = record { trees = none; rest = []; same = refl; stops = refl }
parse most (suc d) [] l n z = absurd (omega arith)
parse most zero (End q ∷ es) l n z = absurd (omega (arith, n.0))
parse most (suc d) (End q ∷ es) l n z = record { trees = none; rest = End q ∷ es; same = refl; stops = (q, es, refl, n.1, z) }
parse zero d (Start c p ∷ es) l n z = absurd (omega arith)
parse (suc most) d (Start c p ∷ es) l n z =
    let inner = parse most (suc d) es (omega arith) (subst (λ k. Nested k es) (add-one d) n.1) (sym (ap (λ k. depth k es) (add-one d)) ∙ z) in
    let kids = inner.trees in
    let q = inner.stops.0 in
    let left = inner.stops.1 in
    let same : es ≡ trees_events kids ++ End q ∷ left = inner.same ∙ ap (λ l. trees_events kids ++ l) inner.stops.2 in
    let after = parse most d left (omega (arith, ap length same, length-append (trees_events kids) (End q ∷ left))) inner.stops.3 inner.stops.4 in
    record {
      trees = more (node c p q kids) after.trees;
      rest = after.rest;
      same = ap (λ l. Start c p ∷ l) (same ∙ regroup kids after.trees q left after.rest after.same);
      stops = after.stops;
    }

-- a tree leaves open what was open before it
mutual
  depth_tree : (t : Tree) (d : ℕ) (es : List Event) → depth d (tree_events t ++ es) ≡ depth d es
  depth_tree (node c p q kids) d es =
      let back : pred (d + 1) ≡ d = omega arith in
      ap (depth (d + 1)) (append_assoc (trees_events kids) (End q ∷ []) es) ∙ depth_trees kids (d + 1) (End q ∷ es) ∙ ap (λ k. depth k es) back

  depth_trees : (ts : Trees) (d : ℕ) (es : List Event) → depth d (trees_events ts ++ es) ≡ depth d es
  depth_trees none d es = refl
  depth_trees (more t ts) d es = ap (depth d) (append_assoc (tree_events t) (trees_events ts) es) ∙ depth_tree t d (trees_events ts ++ es) ∙ depth_trees ts d es

some_events : (t : Tree) → 0 < length (tree_events t)
some_events (node c p q kids) = omega arith

-- nothing comes after the end of the root
alone : (ts : Trees) (es : List Event) → es ≡ trees_events ts → Whole es → (t : Tree) × (tree_events t ≡ es)
alone none es e w = absurd (omega (arith, w.some, ap length e))
alone (more t none) es e w = (t, sym (e ∙ append-nil (tree_events t)))
alone (more t (more u us)) es e w =
    let k = length (tree_events t) in
    let later = trees_events (more u us) in
    let front : depth 0 (take k es) ≡ 0 = ap (λ l. depth 0 (take k l)) e ∙ ap (depth 0) (take-append_seam (tree_events t) later ∙ sym (append-nil (tree_events t))) ∙ depth_tree t 0 [] in
    let more-events = length-append (tree_events u) (trees_events us) in
    let within : k < length es = omega (arith, ap length e, length-append (tree_events t) later, some_events u) in
    absurd (omega (arith, w.inside k (some_events t) within))

pub tree_of : (es : List Event) → Nested 0 es → Whole es → (t : Tree) × (tree_events t ≡ es)
tree_of es n w =
    let all = parse (length es) 0 es (omega arith) n w.shut in
    alone all.trees es (all.same ∙ ap (λ l. trees_events all.trees ++ l) all.stops ∙ append-nil (trees_events all.trees)) w

pub selected : (ss : List Step) → 0 < length ss → (es : List Event) → Nested 0 es → Whole es → SelectedIn ss es (hits ss es)
selected [] l es n w = absurd (omega arith)
selected (s ∷ ss) l es n w =
    let root = tree_of es n w in
    let t = root.0 in
    let decided = hits_decides (s ∷ ss) es in (
      t,
      root.1,
      (λ h. hits_select s ss t (subst (λ l. Hits (s ∷ ss) l) (sym root.1) (decided.0 h)), λ h. decided.1 (subst (λ l. Hits (s ∷ ss) l) root.1 (select_hits s ss t h))),
    )
