-- The code of a name. Assumes nothing.
use Rattle.std.proofs.Common.{◌≡◌, ℕ, zero, suc, ◌<◌, Bool, true, false, cond, List, [], length, get_or, Some, None, Option, sym, refl, ap, ◌∙◌, subst, ⊎_elim, arith}
use Rattle.std.proofs.lemmas.Slice.Eq.{bytes_eq-Decides}
use Rattle.std.proofs.lemmas.Option.{slice_get-get_or as nth-getD, slice_get_past}
use Rattle.std.proofs.lemmas.Bool.{cases_Bool, cases_eq, cases_lt, cases_order, cond-false, both_ways}
use Rattle.std.specs.List.{slice_get}
use Rattle.std.specs.Str.{bytes_eq}
use Rattle.vocabulary.specs.Names.{name_of, code_up_to, code_of, IsCode}
use Rattle.vocabulary.specs.Vocabularies.{NoTwo}

never : {X : Type 0} (s : List ℕ) → ◌≡◌ {A = Option (List ℕ)} None (Some s) → X
never s e = let z : ◌≡◌ {A = ℕ} 0 1 = cc in absurd (omega arith)

none≢code : {X : Type 0} (k : ℕ) → ◌≡◌ {A = Option ℕ} None (Some k) → X
none≢code k e = let z : ◌≡◌ {A = ℕ} 0 1 = cc in absurd (omega arith)

pub code_none : (names : List (List ℕ)) (s : List ℕ) (n : ℕ) → ((k : ℕ) → k < n → get_or names k [] ≡ s → ⊥) → code_up_to names s n ≡ None
code_none names s zero h = refl
code_none names s (suc n) h =
    cond-false _ _ _ (⊎_elim (λ t. absurd (h n (omega arith) ((bytes_eq-Decides (get_or names n []) s).0 t))) (λ f. f) (cases_Bool (bytes_eq (get_or names n []) s)))
    ∙ code_none names s n (λ k l. h k (omega arith))

module _ (names : List (List ℕ)) (s : List ℕ) (n : ℕ) where
  found_by_lem : (b : Bool) → bytes_eq (get_or names n []) s ≡ b → (k : ℕ) → (code_up_to names s n ≡ Some k → (j : ℕ) × (k ≡ suc j) × (j < n) × (get_or names j [] ≡ s)) → cond b (Some (suc n)) (code_up_to names s n) ≡ Some k → (j : ℕ) × (k ≡ suc j) × (j < suc n) × (get_or names j [] ≡ s)
  found_by_lem true e k back h = (n, (let z : suc n ≡ k = cc in sym z), omega arith, (bytes_eq-Decides (get_or names n []) s).0 e)
  found_by_lem false e k back h = let t = back h in (t.0, t.1, omega arith, t.3)

pub code_found : (names : List (List ℕ)) (s : List ℕ) (n k : ℕ) → code_up_to names s n ≡ Some k → (j : ℕ) × (k ≡ suc j) × (j < n) × (get_or names j [] ≡ s)
code_found names s zero k h = none≢code k h
code_found names s (suc n) k h = found_by_lem names s n (bytes_eq (get_or names n []) s) refl k (code_found names s n k) h

module _ (names : List (List ℕ)) (s : List ℕ) (n : ℕ) where
  absent_by : (b : Bool) → bytes_eq (get_or names n []) s ≡ b → (code_up_to names s n ≡ None → (k : ℕ) → k < n → get_or names k [] ≡ s → ⊥) → cond b (Some (suc n)) (code_up_to names s n) ≡ None → (k : ℕ) → k < suc n → get_or names k [] ≡ s → ⊥
  absent_by true e back h k l q = none≢code (suc n) (sym h)
  absent_by false e back h k l q = ⊎_elim (λ z. both_ways _ e ((bytes_eq-Decides (get_or names n []) s).1 (subst (λ m. get_or names m [] ≡ s) z q))) (λ ne. back h k (omega arith) q) (cases_eq k n)

pub code_absent : (names : List (List ℕ)) (s : List ℕ) (n : ℕ) → code_up_to names s n ≡ None → (k : ℕ) → k < n → get_or names k [] ≡ s → ⊥
code_absent names s zero h k l q = omega arith
code_absent names s (suc n) h k l q = absent_by names s n (bytes_eq (get_or names n []) s) refl (code_absent names s n) h k l q

nth_some : (names : List (List ℕ)) (j : ℕ) (s : List ℕ) → slice_get names j ≡ Some s → (j < length names) × (get_or names j [] ≡ s)
nth_some names j s h =
    ⊎_elim
    (λ l. (l, (let g = nth-getD names j [] l in let z : Some (get_or names j []) ≡ Some s = sym g ∙ h in cc)))
    (λ l. never s (sym (slice_get_past names j l) ∙ h))
    (cases_lt j (length names))

pub name_some : (names : List (List ℕ)) (k : ℕ) (s : List ℕ) → name_of names k ≡ Some s → (j : ℕ) × (k ≡ suc j) × (j < length names) × (get_or names j [] ≡ s)
name_some names zero s h = never s h
name_some names (suc j) s h = let t = nth_some names j s h in (j, refl, t.0, t.1)

apart : (names : List (List ℕ)) → NoTwo names → (i j : ℕ) → i < length names → j < length names → get_or names i [] ≡ get_or names j [] → i ≡ j
apart names once i j li lj e = ⊎_elim (λ z. z) (λ o. ⊎_elim (λ l. absurd (once i j l lj e)) (λ l. absurd (once j i l li (sym e))) o) (cases_order i j)

module _ (names : List (List ℕ)) (once : NoTwo names) (s : List ℕ) where
  code_by : (r : Option ℕ) → code_of names s ≡ r → IsCode names s r
  code_by None h = λ k q. let t = name_some names k s q in code_absent names s (length names) h t.0 t.2 t.3
  code_by (Some k) h =
      let t = code_found names s (length names) k h in (
        ap (name_of names) t.1 ∙ nth-getD names t.0 [] t.2 ∙ ap (λ x. Some x) t.3,
        λ j q. let u = name_some names j s q in u.1 ∙ ap suc (apart names once u.0 t.0 u.2 t.2 (u.3 ∙ sym t.3)) ∙ sym t.1,
      )

  pub is_code : (r : Option ℕ) → r ≡ code_of names s → IsCode names s r
  is_code r e = code_by r (sym e)
