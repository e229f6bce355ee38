-- XPath's selection in a tree finds an element exactly where the filter hits the tree's events. Assumes nothing.
use Rattle.std.proofs.Common.{◌≡◌, ℕ, Bool, true, false, cond, ◌⊎◌, List, [], ◌∷◌, ◌++◌, sym, refl, ◌∙◌, subst, inl, inr, ⊎_elim, append-nil}
use mathlib.Core.Logic.{⊎_map, ∥∥₁_elim}
use Rattle.std.specs.List.{flat_map}
use Rattle.std.proofs.lemmas.Bool.{false≢true}
use Rattle.filter.specs.declared.steps.Axis.{Axis}
use Rattle.filter.specs.declared.steps.Axis.TheVariants.{Child, Descendant}
use Rattle.filter.specs.declared.steps.Test.{Test}
use Rattle.filter.specs.declared.steps.Step.{Step}
use Rattle.filter.specs.Embedding.{Fits, fits, Embeds}
use Rattle.filter.proofs.Depths.{fits_sound, fits_complete}
use Rattle.message.specs.Elements.{OneOf, paths, Hits}
use Rattle.message.specs.Trees.{Tree, node, Trees, none, more, code_of, kids_of, tree_events, children, within, within_all, passing, along, select, document, Nonempty}
use Rattle.message.proofs.Ahead.{Leads, embeds_leads, leads_embeds}
use Rattle.message.proofs.Members.{one_map, one_left, one_right, one_split, one_joined, joined_one, nonempty_one, one_nonempty, nonempty_prop}
use Rattle.message.proofs.Elements.{ElementOf, ElementIn, element_of_map, element_map, element_or, element_and, tree_or_rest, from_tree_or_rest}

-- one that passes a node test
passed : (P : Tree → Type 0) (t : Test) (ns : List Tree) → OneOf P (passing t ns) → OneOf (λ n. Fits t (code_of n) × P n) ns
passed P t [] h = absurd h
passed P t (n ∷ ns) h = go (fits t (code_of n)) refl h (passed P t ns)
  where
    go : (b : Bool) → fits t (code_of n) ≡ b → OneOf P (cond b (n ∷ passing t ns) (passing t ns)) → (OneOf P (passing t ns) → OneOf (λ n. Fits t (code_of n) × P n) ns) → OneOf (λ n. Fits t (code_of n) × P n) (n ∷ ns)
    go true e h rest = ⊎_elim (λ a. inl (fits_sound t (code_of n) e, a)) (λ b. inr (rest b)) h
    go false e h rest = inr (rest h)

passes : (P : Tree → Type 0) (t : Test) (ns : List Tree) → OneOf (λ n. Fits t (code_of n) × P n) ns → OneOf P (passing t ns)
passes P t [] h = absurd h
passes P t (n ∷ ns) h = go (fits t (code_of n)) refl h (passes P t ns)
  where
    go : (b : Bool) → fits t (code_of n) ≡ b → OneOf (λ n. Fits t (code_of n) × P n) (n ∷ ns) → (OneOf (λ n. Fits t (code_of n) × P n) ns → OneOf P (passing t ns)) → OneOf P (cond b (n ∷ passing t ns) (passing t ns))
    go true e h rest = ⊎_elim (λ a. inl a.1) (λ b. inr (rest b)) h
    go false e h rest = ⊎_elim (λ a. absurd (false≢true (sym e ∙ fits_complete t (code_of n) a.0))) (λ b. rest b) h

-- descendant-or-self::node()/child::node() gives what lies within the children
abbrev below : Tree → List Tree
below m = children (kids_of m)

-- the children of the nodes xs ++ ys, after the nodes zs
apart : (P : Tree → Type 0) (xs ys zs : List Tree) → OneOf P (zs ++ flat_map below (xs ++ ys)) → OneOf P (flat_map below xs) ⊎ OneOf P (zs ++ flat_map below ys)
apart P xs ys zs h =
    let parts = λ (b : OneOf P (flat_map below (xs ++ ys))). one_split (λ x. OneOf P (below x)) xs ys (one_joined P below (xs ++ ys) b) in
    ⊎_elim
    (λ a. inr (one_left P zs (flat_map below ys) a))
    (λ b. ⊎_map (joined_one P below xs) (λ y. one_right P zs (flat_map below ys) (joined_one P below ys y)) (parts b))
    (one_split P zs (flat_map below (xs ++ ys)) h)

together : (P : Tree → Type 0) (xs ys zs : List Tree) → OneOf P (flat_map below xs) ⊎ OneOf P (zs ++ flat_map below ys) → OneOf P (zs ++ flat_map below (xs ++ ys))
together P xs ys zs h =
    let left = λ (a : OneOf P (flat_map below xs)). joined_one P below (xs ++ ys) (one_left (λ x. OneOf P (below x)) xs ys (one_joined P below xs a)) in
    let right = λ (b : OneOf P (flat_map below ys)). joined_one P below (xs ++ ys) (one_right (λ x. OneOf P (below x)) xs ys (one_joined P below ys b)) in
    let all = flat_map below (xs ++ ys) in
    ⊎_elim
    (λ a. one_right P zs all (left a))
    (λ b. ⊎_elim (one_left P zs all) (λ y. one_right P zs all (right y)) (one_split P zs (flat_map below ys) b))
    h

to_within : (P : Tree → Type 0) (t : Tree) → P t ⊎ OneOf P (within_all (kids_of t)) → OneOf P (within t)
to_within P (node c p q kids) h = h

from_within : (P : Tree → Type 0) (t : Tree) → OneOf P (within t) → P t ⊎ OneOf P (within_all (kids_of t))
from_within P (node c p q kids) h = h

mutual
  tree_descendants : (t : Tree) (P : Tree → Type 0) → OneOf P (flat_map below (within t)) → OneOf P (within_all (kids_of t))
  tree_descendants (node c p q kids) P h = descendants kids P h

  descendants : (ts : Trees) (P : Tree → Type 0) → OneOf P (children ts ++ flat_map below (within_all ts)) → OneOf P (within_all ts)
  descendants none P h = h
  descendants (more t ts) P h =
      let first = λ (a : P t ⊎ OneOf P (within_all (kids_of t))). one_left P (within t) (within_all ts) (to_within P t a) in
      let later = λ (b : OneOf P (children ts ++ flat_map below (within_all ts))). one_right P (within t) (within_all ts) (descendants ts P b) in
      ⊎_elim (λ a. first (inl a)) (λ b. ⊎_elim (λ x. first (inr (tree_descendants t P x))) later (apart P (within t) (within_all ts) (children ts) b)) h

mutual
  from_tree_descendants : (t : Tree) (P : Tree → Type 0) → OneOf P (within_all (kids_of t)) → OneOf P (flat_map below (within t))
  from_tree_descendants (node c p q kids) P h = from_descendants kids P h

  from_descendants : (ts : Trees) (P : Tree → Type 0) → OneOf P (within_all ts) → OneOf P (children ts ++ flat_map below (within_all ts))
  from_descendants none P h = h
  from_descendants (more t ts) P h =
      let all = together P (within t) (within_all ts) (children ts) in
      ⊎_elim
      (λ a. ⊎_map (λ x. x) (λ y. all (inl (from_tree_descendants t P y))) (from_within P t a))
      (λ b. inr (all (inr (from_descendants ts P b))))
      (one_split P (within t) (within_all ts) h)

-- one step of a selection
step_selects : (ss : List Step) (t : Test) (l : List Tree) → Nonempty (flat_map (select ss) (passing t l)) → OneOf (λ m. Fits t (code_of m) × Nonempty (select ss m)) l
step_selects ss t l h =
    passed (λ m. Nonempty (select ss m)) t l
    (one_map (passing t l) (λ m x. one_nonempty (λ y. Unit {0}) (select ss m) x)
    (one_joined (λ y. Unit {0}) (select ss) (passing t l) (nonempty_one (flat_map (select ss) (passing t l)) h)))

selects_step : (ss : List Step) (t : Test) (l : List Tree) → OneOf (λ m. Fits t (code_of m) × Nonempty (select ss m)) l → Nonempty (flat_map (select ss) (passing t l))
selects_step ss t l h =
    one_nonempty (λ y. Unit {0}) (flat_map (select ss) (passing t l))
    (joined_one (λ y. Unit {0}) (select ss) (passing t l)
    (one_map (passing t l) (λ m x. nonempty_one (select ss m) x) (passes (λ m. Nonempty (select ss m)) t l h)))

-- the steps lead from a node to an element below it, or end at the node
abbrev Goes : List Step → Tree → Type 0
Goes ss m = Leads ss [] ⊎ ElementIn (Leads ss) (kids_of m)

-- the node passes the test, and the steps lead on from it
abbrev Taken : Test → List Step → Tree → Type 0
Taken t ss m = Fits t (code_of m) × Goes ss m

module _ (t : Test) (ss : List Step) where
  abbrev Near : List ℕ → Type 0
  Near = Leads (record { axis = Child; test = t } ∷ ss)

  child_to_element : (m : Tree) → Taken t ss m → ElementOf Near m
  child_to_element (node c p q kids) h = ⊎_elim (λ x. inl (h.0, x)) (λ y. inr (element_map (Leads ss) (λ path. Fits t c × Leads ss path) kids (λ path z. (h.0, z)) y)) h.1

  element_to_child : (m : Tree) → ElementOf Near m → Taken t ss m
  element_to_child (node c p q kids) h = ⊎_elim (λ x. (x.0, inl x.1)) (λ y. let r = element_and (Fits t c) (Leads ss) kids y in (r.0, inr r.1)) h

  near_to : (ts : Trees) → OneOf (Taken t ss) (children ts) → ElementIn Near ts
  near_to none h = h
  near_to (more m ts) h = ⊎_elim (λ a. inl (child_to_element m a)) (λ b. inr (near_to ts b)) h

  near_from : (ts : Trees) → ElementIn Near ts → OneOf (Taken t ss) (children ts)
  near_from none h = h
  near_from (more m ts) h = ⊎_elim (λ a. inl (element_to_child m a)) (λ b. inr (near_from ts b)) h

  abbrev Far : List ℕ → Type 0
  Far = Leads (record { axis = Descendant; test = t } ∷ ss)

  mutual
    tree_far_to : (m : Tree) → OneOf (Taken t ss) (within m) → ElementOf Far m
    tree_far_to (node c p q kids) h =
        ⊎_elim
        (λ a. ⊎_elim (λ x. inl (inl (a.0, x))) (λ y. inr (element_map (Leads ss) (λ path. Far (c ∷ path)) kids (λ path z. inl (a.0, z)) y)) a.1)
        (λ b. inr (element_map Far (λ path. Far (c ∷ path)) kids (λ path z. inr z) (far_to kids b)))
        h

    far_to : (ts : Trees) → OneOf (Taken t ss) (within_all ts) → ElementIn Far ts
    far_to none h = h
    far_to (more m ts) h = ⊎_elim (λ a. inl (tree_far_to m a)) (λ b. inr (far_to ts b)) (one_split (Taken t ss) (within m) (within_all ts) h)

  mutual
    tree_far_from : (m : Tree) → ElementOf Far m → OneOf (Taken t ss) (within m)
    tree_far_from (node c p q kids) h =
        ⊎_elim
        (λ a. ⊎_elim (λ x. inl (x.0, inl x.1)) (λ z. absurd z) a)
        (λ b. ⊎_elim (λ x. let r = element_and (Fits t c) (Leads ss) kids x in inl (r.0, inr r.1)) (λ y. inr (far_from kids y)) (element_or (λ path. Fits t c × Leads ss path) Far kids b))
        h

    far_from : (ts : Trees) → ElementIn Far ts → OneOf (Taken t ss) (within_all ts)
    far_from none h = h
    far_from (more m ts) h = ⊎_elim (λ a. one_left (Taken t ss) (within m) (within_all ts) (tree_far_from m a)) (λ b. one_right (Taken t ss) (within m) (within_all ts) (far_from ts b)) h

axis_to : (x : Axis) (t : Test) (ss : List Step) (n : Tree) → OneOf (Taken t ss) (along x n) → ElementIn (Leads (record { axis = x; test = t } ∷ ss)) (kids_of n)
axis_to Child t ss n h = near_to t ss (kids_of n) h
axis_to Descendant t ss n h = far_to t ss (kids_of n) (tree_descendants n (Taken t ss) h)

axis_from : (x : Axis) (t : Test) (ss : List Step) (n : Tree) → ElementIn (Leads (record { axis = x; test = t } ∷ ss)) (kids_of n) → OneOf (Taken t ss) (along x n)
axis_from Child t ss n h = near_from t ss (kids_of n) h
axis_from Descendant t ss n h = from_tree_descendants n (Taken t ss) (far_from t ss (kids_of n) h)

select_to : (ss : List Step) (n : Tree) → Nonempty (select ss n) → Goes ss n
select_to [] n h = inl tt
select_to (s ∷ ss) n h =
    inr (axis_to s.axis s.test ss n (one_map (along s.axis n) (λ m x. (x.0, select_to ss m x.1)) (step_selects ss s.test (along s.axis n) h)))

select_from : (ss : List Step) (n : Tree) → Goes ss n → Nonempty (select ss n)
select_from [] n h = tt
select_from (s ∷ ss) n h =
    ⊎_elim
    (λ a. absurd a)
    (λ b. selects_step ss s.test (along s.axis n) (one_map (along s.axis n) (λ m x. (x.0, select_from ss m x.1)) (axis_from s.axis s.test ss n b)))
    h

module _ (s : Step) (ss : List Step) (t : Tree) where
  abbrev Found : List ℕ → Type 0
  Found path = Embeds (s ∷ ss) path

  element_hits : ElementOf (Leads (s ∷ ss)) t → Hits (s ∷ ss) (tree_events t)
  element_hits e =
      let found = element_of_map (Leads (s ∷ ss)) Found t (leads_embeds (s ∷ ss)) e in
      ∣ subst (λ l. OneOf Found (paths [] l)) (append-nil (tree_events t)) (from_tree_or_rest t Found [] [] (inl found)) ∣₁

  pub select_hits : Nonempty (select (s ∷ ss) (document t)) → Hits (s ∷ ss) (tree_events t)
  select_hits h = ⊎_elim (λ a. absurd a) (⊎_elim element_hits (λ z. absurd z)) (select_to (s ∷ ss) (document t) h)

  one_selects : OneOf Found (paths [] (tree_events t)) → Nonempty (select (s ∷ ss) (document t))
  one_selects x =
      ⊎_elim
      (λ e. select_from (s ∷ ss) (document t) (inr (inl (element_of_map Found (Leads (s ∷ ss)) t (embeds_leads (s ∷ ss)) e))))
      (λ z. absurd z)
      (tree_or_rest t Found [] [] (subst (λ l. OneOf Found (paths [] l)) (sym (append-nil (tree_events t))) x))

  pub hits_select : Hits (s ∷ ss) (tree_events t) → Nonempty (select (s ∷ ss) (document t))
  hits_select h = ∥∥₁_elim h (nonempty_prop (select (s ∷ ss) (document t))) one_selects
