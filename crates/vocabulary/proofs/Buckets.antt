-- The bucket of a name, byte by byte, and the chains of the buckets. Assumes nothing.
use Rattle.std.proofs.Common.{◌≡◌, ℕ, zero, suc, ◌+◌, ◌-◌, ◌*◌, ◌<◌, ◌≤◌, Bool, true, false, cond, eqb, List, [], ◌++◌, length, get_or, drop, Some, None, Option, sym, refl, ap, ◌∙◌, subst, ⊎_elim, arith}
use Rattle.std.proofs.lemmas.Slice.Eq.{bytes_eq-Decides}
use Rattle.std.proofs.lemmas.List.{at_drop_more, at_drop_all, get_or_append_left}
use Rattle.std.proofs.lemmas.Bool.{cases_Bool, cond-false, eqb-true, eq-eqb, both_ways}
use Rattle.std.specs.Option.{unwrap_or}
use Rattle.std.specs.Str.{bytes_eq}
use Rattle.vocabulary.specs.Names.{code_up_to}
use Rattle.vocabulary.specs.Entries.{weighed, bucket_of, latest}

-- one byte more
pub weighed_more : (s : List ℕ) (h i : ℕ) → i < length s → weighed (h + (i + 1) * get_or s i 0) (i + 1) (drop (i + 1) s) ≡ weighed h i (drop i s)
weighed_more s h i l = sym (at_drop_more (weighed h i) s i 0 l)

pub weighed_all : (s : List ℕ) (h i : ℕ) → length s ≤ i → h ≡ weighed h i (drop i s)
weighed_all s h i l = sym (at_drop_all (weighed h i) s i l)

module _ (names : List (List ℕ)) (h k c : ℕ) where
  some_by : (t : Bool) → (t ≡ true → bucket_of (get_or names k []) ≡ h) → (latest names h k ≡ Some c → (0 < c) × (c ≤ k) × (bucket_of (get_or names (c - 1) []) ≡ h)) → cond t (Some (suc k)) (latest names h k) ≡ Some c → (0 < c) × (c ≤ suc k) × (bucket_of (get_or names (c - 1) []) ≡ h)
  some_by true here back e =
      let z : suc k ≡ c = cc in
      let y : k ≡ c - 1 = omega arith in
      (omega arith, omega arith, subst (λ m. bucket_of (get_or names m []) ≡ h) y (here refl))
  some_by false here back e = let t = back e in (t.0, omega (arith, t.1), t.2)

-- the latest code of a bucket is of that bucket
pub latest_some : (names : List (List ℕ)) (h k c : ℕ) → latest names h k ≡ Some c → (0 < c) × (c ≤ k) × (bucket_of (get_or names (c - 1) []) ≡ h)
latest_some names h zero c e = let z : ◌≡◌ {A = ℕ} 0 1 = cc in absurd (omega arith)
latest_some names h (suc k) c e = some_by names h k c (eqb (bucket_of (get_or names k [])) h) (eqb-true _ _) (latest_some names h k c) e

pub latest_low : (names : List (List ℕ)) (h k : ℕ) (o : Option ℕ) → o ≡ latest names h k → unwrap_or o 0 ≤ k
latest_low names h k None e = omega arith
latest_low names h k (Some c) e = (latest_some names h k c (sym e)).1

-- names of other buckets differ
differs : (a s : List ℕ) → eqb (bucket_of a) (bucket_of s) ≡ false → bytes_eq a s ≡ false
differs a s e = ⊎_elim (λ t. absurd (both_ways _ e (eq-eqb _ _ (ap bucket_of ((bytes_eq-Decides a s).0 t))))) (λ f. f) (cases_Bool (bytes_eq a s))

module _ (names : List (List ℕ)) (s : List ℕ) (k : ℕ) where
  skip_cond : (b : Bool) → eqb (bucket_of (get_or names k [])) (bucket_of s) ≡ b → code_up_to names s k ≡ code_up_to names s (unwrap_or (latest names (bucket_of s) k) 0) → code_up_to names s (suc k) ≡ code_up_to names s (unwrap_or (cond b (Some (suc k)) (latest names (bucket_of s) k)) 0)
  skip_cond true e back = refl
  skip_cond false e back = cond-false _ _ _ (differs (get_or names k []) s e) ∙ back

-- only the codes of the bucket count
pub skip : (names : List (List ℕ)) (s : List ℕ) (k : ℕ) → code_up_to names s k ≡ code_up_to names s (unwrap_or (latest names (bucket_of s) k) 0)
skip names s zero = refl
skip names s (suc k) = skip_cond names s k _ refl (skip names s k)

-- a name that comes later alters nothing before it
pub latest_local : (names more : List (List ℕ)) (h k : ℕ) → k ≤ length names → latest (names ++ more) h k ≡ latest names h k
latest_local names more h zero l = refl
latest_local names more h (suc k) l =
    let g = get_or_append_left names more [] k l in
    let r = latest_local names more h k (omega arith) in
    (λ i. cond (eqb (bucket_of (g i)) h) (Some (suc k)) (r i))

-- a search along the chain of a bucket, which comes to a code next: those that are not on the chain are not the name's
pub record Looking (names : List (List ℕ)) (s : List ℕ) (next : Option ℕ) : Type 0 where
  pub same : code_up_to names s (unwrap_or next 0) ≡ code_up_to names s (length names)
  pub known : (c : ℕ) → next ≡ Some c → (0 < c) × (c ≤ length names) × (bucket_of (get_or names (c - 1) []) ≡ bucket_of s)

module _ (names : List (List ℕ)) (s : List ℕ) where
  pub looking_first : (next : Option ℕ) → next ≡ latest names (bucket_of s) (length names) → Looking names s next
  looking_first next e = record {
    same = ap (λ o. code_up_to names s (unwrap_or o 0)) e ∙ sym (skip names s (length names));
    known = λ c q. latest_some names (bucket_of s) (length names) c (sym e ∙ q);
  }

  module _ (code : ℕ) (now : Looking names s (Some code)) where
    one : code ≡ suc (code - 1)
    one = let k = now.known code refl in omega arith

    pub looking_next : false ≡ bytes_eq (get_or names (code - 1) []) s → (next : Option ℕ) → next ≡ latest names (bucket_of (get_or names (code - 1) [])) (code - 1) → (unwrap_or next 0 < code) × Looking names s next
    looking_next f next e =
        let k = now.known code refl in
        let is : next ≡ latest names (bucket_of s) (code - 1) = e ∙ ap (λ h. latest names h (code - 1)) k.2 in
        let low = latest_low names (bucket_of s) (code - 1) next is in
        let o = one in (
          omega arith,
          record {
            same = ap (λ o. code_up_to names s (unwrap_or o 0)) is ∙ sym (skip names s (code - 1)) ∙ sym (cond-false _ _ _ (sym f)) ∙ ap (code_up_to names s) (sym one) ∙ now.same;
            known = λ c q. let l = latest_some names (bucket_of s) (code - 1) c (sym is ∙ q) in (l.0, omega arith, l.2);
          },
        )
