-- The elements of a tree, and the paths of the elements that its events start. Assumes nothing.
use Rattle.std.proofs.Common.{◌≡◌, ℕ, ◌-◌, ◌⊎◌, List, [], ◌∷◌, ◌++◌, length, sym, subst, inl, inr, ⊎_elim, append_assoc, arith, take_at}
use mathlib.Core.Logic.{⊎_map}
use lib.Seq.{append_snoc}
use Rattle.std.proofs.lemmas.List.{length_push}
use Rattle.message.specs.declared.events.Event.{Event}
use Rattle.message.specs.declared.events.Event.TheVariants.{End}
use Rattle.message.specs.Elements.{OneOf, paths, outer}
use Rattle.message.specs.Trees.{Tree, node, Trees, none, more, tree_events, trees_events}

-- one of the elements has a path, from the tree's root on, with the property
abbrev mutual
  pub ElementOf : (List ℕ → Type 0) → Tree → Type 0
  ElementOf Q (node c p q kids) = Q (c ∷ []) ⊎ ElementIn (λ path. Q (c ∷ path)) kids

  pub ElementIn : (List ℕ → Type 0) → Trees → Type 0
  ElementIn Q none = ⊥
  ElementIn Q (more t ts) = ElementOf Q t ⊎ ElementIn Q ts

mutual
  pub element_of_map : (Q R : List ℕ → Type 0) (t : Tree) → ((path : List ℕ) → Q path → R path) → ElementOf Q t → ElementOf R t
  element_of_map Q R (node c p q kids) f h = ⊎_elim (λ a. inl (f (c ∷ []) a)) (λ b. inr (element_map (λ path. Q (c ∷ path)) (λ path. R (c ∷ path)) kids (λ path. f (c ∷ path)) b)) h

  pub element_map : (Q R : List ℕ → Type 0) (ts : Trees) → ((path : List ℕ) → Q path → R path) → ElementIn Q ts → ElementIn R ts
  element_map Q R none f h = h
  element_map Q R (more t ts) f h = ⊎_elim (λ a. inl (element_of_map Q R t f a)) (λ b. inr (element_map Q R ts f b)) h

mutual
  element_of_or : (Q R : List ℕ → Type 0) (t : Tree) → ElementOf (λ path. Q path ⊎ R path) t → ElementOf Q t ⊎ ElementOf R t
  element_of_or Q R (node c p q kids) h =
      ⊎_elim
      (λ a. ⊎_elim (λ x. inl (inl x)) (λ y. inr (inl y)) a)
      (λ b. ⊎_elim (λ x. inl (inr x)) (λ y. inr (inr y)) (element_or (λ path. Q (c ∷ path)) (λ path. R (c ∷ path)) kids b))
      h

  pub element_or : (Q R : List ℕ → Type 0) (ts : Trees) → ElementIn (λ path. Q path ⊎ R path) ts → ElementIn Q ts ⊎ ElementIn R ts
  element_or Q R none h = absurd h
  element_or Q R (more t ts) h =
      ⊎_elim
      (λ a. ⊎_elim (λ x. inl (inl x)) (λ y. inr (inl y)) (element_of_or Q R t a))
      (λ b. ⊎_elim (λ x. inl (inr x)) (λ y. inr (inr y)) (element_or Q R ts b))
      h

mutual
  element_of_and : (A : Type 0) (Q : List ℕ → Type 0) (t : Tree) → ElementOf (λ path. A × Q path) t → A × ElementOf Q t
  element_of_and A Q (node c p q kids) h = ⊎_elim (λ a. (a.0, inl a.1)) (λ b. let r = element_and A (λ path. Q (c ∷ path)) kids b in (r.0, inr r.1)) h

  pub element_and : (A : Type 0) (Q : List ℕ → Type 0) (ts : Trees) → ElementIn (λ path. A × Q path) ts → A × ElementIn Q ts
  element_and A Q none h = absurd h
  element_and A Q (more t ts) h = ⊎_elim (λ a. let r = element_of_and A Q t a in (r.0, inl r.1)) (λ b. let r = element_and A Q ts b in (r.0, inr r.1)) h

outer_push : (path : List ℕ) (c : ℕ) → outer (path ++ c ∷ []) ≡ path
outer_push path c = take_at path (c ∷ []) (length (path ++ c ∷ []) - 1) (let n = length_push path c in omega arith)

-- an element below c and what comes after its end, seen from c's parent
module _ (kids : Trees) (c q : ℕ) (P : List ℕ → Type 0) (path : List ℕ) (es : List Event) where
  abbrev Here : Type 0
  Here = ElementOf (λ below. P (path ++ below)) (node c 0 0 kids) ⊎ OneOf P (paths path es)

  abbrev Inside : Type 0
  Inside = ElementIn (λ below. P ((path ++ c ∷ []) ++ below)) kids ⊎ OneOf P (paths (path ++ c ∷ []) (End q ∷ es))

  outwards : P (path ++ c ∷ []) ⊎ Inside → Here
  outwards h =
      let kid = element_map (λ below. P ((path ++ c ∷ []) ++ below)) (λ below. P (path ++ c ∷ below)) kids (λ below. subst P (append_snoc path c below)) in
      ⊎_elim (λ a. inl (inl a)) (⊎_map (λ b. inr (kid b)) (subst (λ o. OneOf P (paths o es)) (outer_push path c))) h

  inwards : Here → P (path ++ c ∷ []) ⊎ Inside
  inwards h =
      let kid = element_map (λ below. P (path ++ c ∷ below)) (λ below. P ((path ++ c ∷ []) ++ below)) kids (λ below. subst P (sym (append_snoc path c below))) in
      ⊎_elim (⊎_map (λ a. a) (λ b. inl (kid b))) (λ d. inr (inr (subst (λ o. OneOf P (paths o es)) (sym (outer_push path c)) d))) h

-- a path of the events of a tree, and of `es` after them, is one of the tree's elements, or one of `es`
mutual
  pub tree_or_rest : (t : Tree) (P : List ℕ → Type 0) (path : List ℕ) (es : List Event) → OneOf P (paths path (tree_events t ++ es)) → ElementOf (λ below. P (path ++ below)) t ⊎ OneOf P (paths path es)
  tree_or_rest (node c p q kids) P path es h =
      let split = subst (λ l. OneOf P (paths (path ++ c ∷ []) l)) (append_assoc (trees_events kids) (End q ∷ []) es) in
      outwards kids c q P path es (⊎_map (λ a. a) (λ b. trees_or_rest kids P (path ++ c ∷ []) (End q ∷ es) (split b)) h)

  trees_or_rest : (ts : Trees) (P : List ℕ → Type 0) (path : List ℕ) (es : List Event) → OneOf P (paths path (trees_events ts ++ es)) → ElementIn (λ below. P (path ++ below)) ts ⊎ OneOf P (paths path es)
  trees_or_rest none P path es h = inr h
  trees_or_rest (more t ts) P path es h =
      let split = subst (λ l. OneOf P (paths path l)) (append_assoc (tree_events t) (trees_events ts) es) h in
      ⊎_elim (λ a. inl (inl a)) (λ b. ⊎_map (λ x. inr x) (λ y. y) (trees_or_rest ts P path es b)) (tree_or_rest t P path (trees_events ts ++ es) split)

mutual
  pub from_tree_or_rest : (t : Tree) (P : List ℕ → Type 0) (path : List ℕ) (es : List Event) → ElementOf (λ below. P (path ++ below)) t ⊎ OneOf P (paths path es) → OneOf P (paths path (tree_events t ++ es))
  from_tree_or_rest (node c p q kids) P path es h =
      let join = subst (λ l. OneOf P (paths (path ++ c ∷ []) l)) (sym (append_assoc (trees_events kids) (End q ∷ []) es)) in
      ⊎_map (λ a. a) (λ b. join (from_trees_or_rest kids P (path ++ c ∷ []) (End q ∷ es) b)) (inwards kids c q P path es h)

  from_trees_or_rest : (ts : Trees) (P : List ℕ → Type 0) (path : List ℕ) (es : List Event) → ElementIn (λ below. P (path ++ below)) ts ⊎ OneOf P (paths path es) → OneOf P (paths path (trees_events ts ++ es))
  from_trees_or_rest none P path es h = ⊎_elim (λ a. absurd a) (λ b. b) h
  from_trees_or_rest (more t ts) P path es h =
      let later = from_trees_or_rest ts P path es in
      let join = subst (λ l. OneOf P (paths path l)) (sym (append_assoc (tree_events t) (trees_events ts) es)) in
      join (from_tree_or_rest t P path (trees_events ts ++ es) (⊎_elim (⊎_map (λ x. x) (λ y. later (inl y))) (λ b. inr (later (inr b))) h))
