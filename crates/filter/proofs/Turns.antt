-- The turns of the loops over the masks. Assumes nothing.
use Rattle.std.proofs.Common.{◌≡◌, ℕ, suc, ◌+◌, ◌^◌, ◌<◌, ◌≤◌, Bool, true, false, cond, not, ◌&&◌, eqb, List, [], ◌∷◌, ◌++◌, length, get_or, set, sym, refl, ap, ◌∙◌, subst, ⊎_elim, add-one, arith, get_or-set_other, get_or-set_same}
use lib.Seq.{get_or-append_seam}
use Rattle.std.proofs.lemmas.Grind.{common_steps}
use Rattle.std.proofs.lemmas.List.{get_or_append_left}
use Rattle.std.proofs.lemmas.Bool.{cases_eq, ne_eqb}
use Rattle.filter.specs.declared.steps.Step.{Step}
use Rattle.filter.specs.Embedding.{fits, any_to, pick, blank, reaches}
use Rattle.filter.specs.Masks.{column, newest, Columns}
use Rattle.filter.proofs.Bits.{any_none, any_col, col_below, column_local, newest_col}

-- the first k masks are those with the element of the code c below the path, and the others those of the path
pub record Turned (ss : List Step) (path : List ℕ) (c : ℕ) (masks : List ℕ) (behind above hit : Bool) (k : ℕ) : Type 0 where
  pub parent : behind ≡ reaches ss (path ++ c ∷ []) k (length path)
  pub ancestor : above ≡ any_to (reaches ss (path ++ c ∷ []) k) (length path)
  pub here : hit ≡ reaches ss (path ++ c ∷ []) k (suc (length path))
  pub done : (j : ℕ) → j < k → get_or masks j 0 ≡ column (reaches ss (path ++ c ∷ []) (suc j)) (suc (length path))
  pub left : (j : ℕ) → k ≤ j → j < length ss → get_or masks j 0 ≡ column (reaches ss (path ++ c ∷ []) (suc j)) (length path)

pub turn_first : (ss : List Step) (path : List ℕ) (c : ℕ) (masks : List ℕ) → Columns ss path masks (length path) → Turned ss path c masks (eqb (length path) 0) true false 0
turn_first ss path c masks before = record {
  parent = refl;
  ancestor = sym (any_none ss (path ++ c ∷ []) (length path));
  here = sym (ne_eqb (suc (length path)) 0 (omega arith));
  done = λ j h. absurd (omega arith);
  left = λ j h l. before j l ∙ column_local ss path (path ++ c ∷ []) (suc j) (length path) (λ i m. sym (get_or_append_left path (c ∷ []) 0 i m));
}

module _ (ss : List Step) (path : List ℕ) (c : ℕ) (masks : List ℕ) (behind above hit : Bool) (k : ℕ) (t : Turned ss path c masks behind above hit k) (within : k < length ss) where
  mask : get_or masks k 0 ≡ column (reaches ss (path ++ c ∷ []) (suc k)) (length path)
  mask = t.left k (omega arith) within

  -- no bit stands above the path in a mask to come
  pub turn_clear : get_or masks k 0 < 2 ^ length path
  turn_clear = subst (λ x. x < 2 ^ length path) (sym mask) (col_below (reaches ss (path ++ c ∷ []) (suc k)) (length path))

  pub turn : length ss ≤ length masks → (behind' hit' : Bool) (mask' : ℕ)
      → hit' ≡ (fits (get_or ss k blank).test c && pick (get_or ss k blank).axis behind above)
      → behind' ≡ newest (get_or masks k 0) (length path)
      → mask' ≡ get_or masks k 0 + cond hit' (2 ^ length path) 0
      → Turned ss path c (set masks k mask') behind' (not (eqb (get_or masks k 0) 0)) hit' (k + 1)
  turn few behind' hit' mask' eh eb em =
      subst (λ m. Turned ss path c (set masks k mask') behind' (not (eqb (get_or masks k 0) 0)) hit' m) (sym (add-one k)) (record {
        parent = eb ∙ ap (λ m. newest m (length path)) mask ∙ newest_col (reaches ss (path ++ c ∷ []) (suc k)) (length path) refl;
        ancestor = ap (λ m. not (eqb m 0)) mask ∙ any_col (reaches ss (path ++ c ∷ []) (suc k)) (length path) refl;
        here = got;
        done = λ j h. ⊎_elim (λ e. subst (λ i. get_or (set masks k mask') i 0 ≡ column (reaches ss (path ++ c ∷ []) (suc i)) (suc (length path))) (sym e) new) (λ ne. get_or-set_other masks k j mask' 0 ne ∙ t.done j (omega arith)) (cases_eq j k);
        left = λ j h l. grind (arith, common_steps, t.left j);
      })
    where
      got : hit' ≡ reaches ss (path ++ c ∷ []) (suc k) (suc (length path))
      got =
          let p = t.parent in
          let a = t.ancestor in
          let last = get_or-append_seam path c [] 0 in
          eh ∙ (λ i. fits (get_or ss k blank).test (sym last i) && pick (get_or ss k blank).axis (p i) (a i))

      new : get_or (set masks k mask') k 0 ≡ column (reaches ss (path ++ c ∷ []) (suc k)) (suc (length path))
      new = get_or-set_same masks k mask' 0 (omega arith) ∙ em ∙ (λ i. mask i + cond (got i) (2 ^ length path) 0)
