-- How markup goes on behind some of its bytes: behind a name, and to the first `-->` or `?>`. Assumes nothing.
use Rattle.std.proofs.Common.{◌≡◌, ℕ, suc, ◌+◌, ◌<◌, Bool, true, false, cond, eqb, ◌⊎◌, List, [], ◌∷◌, length, get_or, drop, sym, refl, ap, ◌∙◌, inl, inr, arith}
use Rattle.std.specs.List.{prefix_len}
use Rattle.std.proofs.lemmas.Bool.{cases_eq, cond-true, cond-false, eq-eqb, ne_eqb}
use Rattle.vocabulary.specs.Names.{is_name_byte}
use Rattle.markup.specs.Bytes.{name_byte, white, comment_end, instruction_end}
use Rattle.markup.specs.declared.tags.Tag.{Tag}
use Rattle.markup.specs.declared.tags.Tag.TheVariants as T
use Rattle.markup.specs.Grammar.{opening, closing, comment, instruction}
use Rattle.markup.specs.Tags.{State, in_name, end_name, in_remark, one_dash, two_dashes, in_order, asking, Move, Scan, cut_short, ends, begins_none, misfits, later, scan_by, scan_from}
use Rattle.markup.specs.Runs.{standing, shifted, first_from, found_by}

pub shifted_later : (n : ℕ) (x : Scan) → shifted n (later x) ≡ shifted (n + 1) x
shifted_later n cut_short = refl
shifted_later n (ends k c) = ap (ends k) (omega arith)
shifted_later n begins_none = refl
shifted_later n (misfits c) = ap misfits (omega arith)

pub shifted_none : (x : Scan) → shifted 0 x ≡ x
shifted_none cut_short = refl
shifted_none (ends k c) = ap (ends k) (omega arith)
shifted_none begins_none = refl
shifted_none (misfits c) = ap misfits (omega arith)

pub shifted_twice : (m n : ℕ) (x : Scan) → shifted m (shifted n x) ≡ shifted (m + n) x
shifted_twice m n cut_short = refl
shifted_twice m n (ends k c) = ap (ends k) (omega arith)
shifted_twice m n begins_none = refl
shifted_twice m n (misfits c) = ap misfits (omega arith)

pub later_shifted : (x : Scan) → later x ≡ shifted 1 x
later_shifted x = sym (shifted_none (later x)) ∙ shifted_later 0 x

-- the bytes of a name
by_name : (s : State) (bs : List ℕ) (b : ℕ) (p : Bool) (x : Scan) → scan_from s bs ≡ shifted (prefix_len is_name_byte bs) (scan_from s (drop (prefix_len is_name_byte bs) bs)) → (p ≡ true → x ≡ later (scan_from s bs)) → (p ≡ false → x ≡ scan_from s (b ∷ bs)) → x ≡ shifted (cond p (1 + prefix_len is_name_byte bs) 0) (scan_from s (drop (cond p (1 + prefix_len is_name_byte bs) 0) (b ∷ bs)))
by_name s bs b true x ih h g =
    let k = prefix_len is_name_byte bs in
    h refl ∙ later_shifted (scan_from s bs) ∙ ap (shifted 1) ih ∙ shifted_twice 1 k _ ∙ ap (λ y. shifted (1 + k) (scan_from s y)) (sym (drop_one k b bs))
  where
    drop_one : (k : ℕ) (b : ℕ) (bs : List ℕ) → drop (1 + k) (b ∷ bs) ≡ drop k bs
    drop_one k b bs = let e : 1 + k ≡ suc k = omega arith in ap (λ i. drop i (b ∷ bs)) e
by_name s bs b false x ih h g = g refl ∙ sym (shifted_none _)

pub in_name_lem : (bs : List ℕ) → scan_from in_name bs ≡ shifted (prefix_len is_name_byte bs) (scan_from in_name (drop (prefix_len is_name_byte bs) bs))
unfolding name_byte
in_name_lem [] = refl
in_name_lem (b ∷ bs) =
    by_name in_name bs b (is_name_byte b) (scan_from in_name (b ∷ bs)) (in_name_lem bs)
    (λ h. ap (λ m. scan_by m (λ t. scan_from t bs)) (cond-true _ _ _ h))
    (λ h. refl)

pub in_end_name : (bs : List ℕ) → scan_from end_name bs ≡ shifted (prefix_len is_name_byte bs) (scan_from end_name (drop (prefix_len is_name_byte bs) bs))
unfolding name_byte
in_end_name [] = refl
in_end_name (b ∷ bs) =
    by_name end_name bs b (is_name_byte b) (scan_from end_name (b ∷ bs)) (in_end_name bs)
    (λ h. ap (λ m. scan_by m (λ t. scan_from t bs)) (cond-true _ _ _ h))
    (λ h. refl)

-- the first `-->`: with no dash, one or two before the bytes
abbrev Remarks : List ℕ → ℕ → Type 0
Remarks s n =
    (shifted n (scan_from in_remark s) ≡ found_by comment 3 (first_from comment_end n s))
    × (shifted (n + 1) (scan_from one_dash s) ≡ found_by comment 3 (first_from comment_end n (45 ∷ s)))
    × (shifted (n + 2) (scan_from two_dashes s) ≡ found_by comment 3 (first_from comment_end n (45 ∷ 45 ∷ s)))

abbrev scanned : Move → List ℕ → Scan
scanned m s = scan_by m (λ t. scan_from t s)

module _ (s : List ℕ) (ih : (n : ℕ) → Remarks s n) (n : ℕ) where
  dash_next : (b : ℕ) → b ≡ 45 → Remarks (b ∷ s) n
  dash_next b e =
      let t = eq-eqb b 45 e in
      let f = ap (λ x. eqb x 62) e in (
        ap (shifted n) (ap (λ m. scanned m s) (cond-true _ _ _ t)) ∙ shifted_later n _ ∙ (ih n).1 ∙ sym (ap (λ x. found_by comment 3 (first_from comment_end n (x ∷ s))) e),
        ap (shifted (n + 1)) (ap (λ m. scanned m s) (cond-true _ _ _ t)) ∙ shifted_later (n + 1) _ ∙ ap (λ i. shifted i (scan_from two_dashes s)) (omega arith) ∙ (ih n).2 ∙ sym (ap (λ x. found_by comment 3 (first_from comment_end n (45 ∷ x ∷ s))) e),
        ap (shifted (n + 2)) (ap (λ m. scanned m s) (cond-false _ _ _ f ∙ cond-true _ _ _ t)) ∙ shifted_later (n + 2) _ ∙ ap (λ i. shifted i (scan_from two_dashes s)) (omega arith) ∙ (ih (n + 1)).2 ∙ sym (ap (λ x. found_by comment 3 (first_from comment_end n (45 ∷ 45 ∷ x ∷ s))) e),
      )

  -- a byte that is no dash, where it stands first
  past : (b i : ℕ) → eqb 45 b ≡ false → first_from comment_end i (b ∷ s) ≡ first_from comment_end (i + 1) s
  past b i h = cond-false _ _ _ (cond-false _ _ _ h)

  past_one : (b i : ℕ) → eqb 45 b ≡ false → first_from comment_end i (45 ∷ b ∷ s) ≡ first_from comment_end (i + 1 + 1) s
  past_one b i h = cond-false _ _ _ (cond-false _ _ _ h) ∙ past b (i + 1) h

  past_two : (b i : ℕ) → eqb 45 b ≡ false → eqb 62 b ≡ false → first_from comment_end i (45 ∷ 45 ∷ b ∷ s) ≡ first_from comment_end (i + 1 + 1 + 1) s
  past_two b i h g = cond-false _ _ _ (cond-false _ _ _ g) ∙ past_one b (i + 1) h

  none_two : (b : ℕ) → eqb b 45 ≡ false → eqb 45 b ≡ false → (b ≡ 62) ⊎ (b ≡ 62 → ⊥) → shifted (n + 2) (scan_from two_dashes (b ∷ s)) ≡ found_by comment 3 (first_from comment_end n (45 ∷ 45 ∷ b ∷ s))
  none_two b h g (inl e) =
      ap (shifted (n + 2)) (ap (λ m. scanned m s) (cond-true _ _ _ (eq-eqb b 62 e)))
      ∙ ap (ends comment) (omega arith)
      ∙ sym (ap (found_by comment 3) (cond-true _ _ _ (cond-true _ _ _ (eq-eqb 62 b (sym e)))))
  none_two b h g (inr e) =
      ap (shifted (n + 2)) (ap (λ m. scanned m s) (cond-false _ _ _ (ne_eqb b 62 e) ∙ cond-false _ _ _ h))
      ∙ shifted_later (n + 2) _
      ∙ ap (λ i. shifted i (scan_from in_remark s)) (omega arith)
      ∙ (ih (n + 1 + 1 + 1)).0
      ∙ sym (ap (found_by comment 3) (past_two b n g (ne_eqb 62 b (λ q. e (sym q)))))

  other_next : (b : ℕ) → (b ≡ 45 → ⊥) → Remarks (b ∷ s) n
  other_next b e =
      let f = ne_eqb b 45 e in
      let g = ne_eqb 45 b (λ q. e (sym q)) in (
        ap (shifted n) (ap (λ m. scanned m s) (cond-false _ _ _ f)) ∙ shifted_later n _ ∙ (ih (n + 1)).0 ∙ sym (ap (found_by comment 3) (past b n g)),
        ap (shifted (n + 1)) (ap (λ m. scanned m s) (cond-false _ _ _ f)) ∙ shifted_later (n + 1) _ ∙ (ih (n + 1 + 1)).0 ∙ sym (ap (found_by comment 3) (past_one b n g)),
        none_two b f g (cases_eq b 62),
      )

remarks : (s : List ℕ) (n : ℕ) → Remarks s n
remarks [] n = (refl, refl, refl)
remarks (b ∷ s) n = elim (cases_eq b 45) [ inl e ↦ dash_next s (remarks s) n b e | inr e ↦ other_next s (remarks s) n b e ]

pub remark_scan : (s : List ℕ) → scan_from in_remark s ≡ found_by comment 3 (first_from comment_end 0 s)
remark_scan s = sym (shifted_none _) ∙ (remarks s 0).0

-- the first `?>`: with no `?` or one before the bytes
abbrev Orders : List ℕ → ℕ → Type 0
Orders s n =
    (shifted n (scan_from in_order s) ≡ found_by instruction 2 (first_from instruction_end n s))
    × (shifted (n + 1) (scan_from asking s) ≡ found_by instruction 2 (first_from instruction_end n (63 ∷ s)))

module _ (s : List ℕ) (ih : (n : ℕ) → Orders s n) (n : ℕ) where
  ask_next : (b : ℕ) → b ≡ 63 → Orders (b ∷ s) n
  ask_next b e =
      let t = eq-eqb b 63 e in
      let f = ap (λ x. eqb x 62) e in (
        ap (shifted n) (ap (λ m. scanned m s) (cond-true _ _ _ t)) ∙ shifted_later n _ ∙ (ih n).1 ∙ sym (ap (λ x. found_by instruction 2 (first_from instruction_end n (x ∷ s))) e),
        ap (shifted (n + 1)) (ap (λ m. scanned m s) (cond-false _ _ _ f ∙ cond-true _ _ _ t)) ∙ shifted_later (n + 1) _ ∙ (ih (n + 1)).1 ∙ sym (ap (λ x. found_by instruction 2 (first_from instruction_end n (63 ∷ x ∷ s))) e),
      )

  leap : (b i : ℕ) → eqb 63 b ≡ false → first_from instruction_end i (b ∷ s) ≡ first_from instruction_end (i + 1) s
  leap b i h = cond-false _ _ _ (cond-false _ _ _ h)

  leap_one : (b i : ℕ) → eqb 63 b ≡ false → eqb 62 b ≡ false → first_from instruction_end i (63 ∷ b ∷ s) ≡ first_from instruction_end (i + 1 + 1) s
  leap_one b i h g = cond-false _ _ _ (cond-false _ _ _ g) ∙ leap b (i + 1) h

  none_one : (b : ℕ) → eqb b 63 ≡ false → eqb 63 b ≡ false → (b ≡ 62) ⊎ (b ≡ 62 → ⊥) → shifted (n + 1) (scan_from asking (b ∷ s)) ≡ found_by instruction 2 (first_from instruction_end n (63 ∷ b ∷ s))
  none_one b h g (inl e) =
      ap (shifted (n + 1)) (ap (λ m. scanned m s) (cond-true _ _ _ (eq-eqb b 62 e)))
      ∙ ap (ends instruction) (omega arith)
      ∙ sym (ap (found_by instruction 2) (cond-true _ _ _ (cond-true _ _ _ (eq-eqb 62 b (sym e)))))
  none_one b h g (inr e) =
      ap (shifted (n + 1)) (ap (λ m. scanned m s) (cond-false _ _ _ (ne_eqb b 62 e) ∙ cond-false _ _ _ h))
      ∙ shifted_later (n + 1) _
      ∙ (ih (n + 1 + 1)).0
      ∙ sym (ap (found_by instruction 2) (leap_one b n g (ne_eqb 62 b (λ q. e (sym q)))))

  plain_next : (b : ℕ) → (b ≡ 63 → ⊥) → Orders (b ∷ s) n
  plain_next b e =
      let f = ne_eqb b 63 e in
      let g = ne_eqb 63 b (λ q. e (sym q)) in (
        ap (shifted n) (ap (λ m. scanned m s) (cond-false _ _ _ f)) ∙ shifted_later n _ ∙ (ih (n + 1)).0 ∙ sym (ap (found_by instruction 2) (leap b n g)),
        none_one b f g (cases_eq b 62),
      )

orders : (s : List ℕ) (n : ℕ) → Orders s n
orders [] n = (refl, refl)
orders (b ∷ s) n = elim (cases_eq b 63) [ inl e ↦ ask_next s (orders s) n b e | inr e ↦ plain_next s (orders s) n b e ]

pub order_scan : (s : List ℕ) → scan_from in_order s ≡ found_by instruction 2 (first_from instruction_end 0 s)
order_scan s = sym (shifted_none _) ∙ (orders s 0).0

-- `>` behind a name
pub opens : (t : Tag) (s : List ℕ) → t ≡ T.Name → 0 < length s → get_or s 0 0 ≡ 62 → ends opening 1 ≡ scan_from (standing t) s
unfolding name_byte white
opens t [] is h e = absurd (omega arith)
opens t (b ∷ s) is h e = sym (λ i. scan_from (standing (is i)) (e i ∷ s))

pub closes : (t : Tag) (s : List ℕ) → t ≡ T.EndName → 0 < length s → get_or s 0 0 ≡ 62 → ends closing 1 ≡ scan_from (standing t) s
unfolding name_byte white
closes t [] is h e = absurd (omega arith)
closes t (b ∷ s) is h e = sym (λ i. scan_from (standing (is i)) (e i ∷ s))
