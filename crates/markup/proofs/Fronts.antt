-- The name at the front of a tag, and how the tag goes on behind it. Assumes nothing.
use Rattle.std.proofs.Common.{◌≡◌, ℕ, zero, suc, ◌+◌, ◌<◌, ◌≤◌, Bool, true, false, cond, eqb, List, [], ◌∷◌, take, drop, sym, refl, ap, ◌∙◌, arith}
use Rattle.std.specs.List.{prefix_len}
use Rattle.std.proofs.lemmas.Bool.{cond-true, or_right}
use Rattle.vocabulary.specs.Names.{between, is_name_start, is_name_byte, name_size}
use Rattle.markup.specs.Bytes.{name_start, name_byte, front}
use Rattle.markup.specs.Grammar.{Kind}
use Rattle.markup.specs.Tags.{at_open, in_name, end_first, end_name, on, misfit, ends, scan_by, scan_from}
use Rattle.markup.specs.Runs.{shifted}
use Rattle.markup.proofs.Scanning.{later_shifted, in_name_lem, in_end_name}

start_inner : (b : ℕ) → is_name_start b ≡ true → is_name_byte b ≡ true
start_inner b h = or_right (between 48 57 b) _ (or_right (eqb b 45) _ (or_right (eqb b 46) _ h))

-- a byte begins a name where one stands
pub begins_name : (b : ℕ) (s : List ℕ) → 0 < name_size (b ∷ s) → is_name_start b ≡ true
begins_name b s h = by_start (is_name_start b) h
  where
    by_start : (p : Bool) → 0 < cond p (1 + prefix_len is_name_byte s) 0 → p ≡ true
    by_start true h = refl
    by_start false h = absurd (omega arith)

pub name_leads : (s : List ℕ) → 0 < name_size s → name_size s ≡ prefix_len is_name_byte s
name_leads [] h = refl
name_leads (b ∷ s) h = let e = begins_name b s h in cond-true _ _ _ e ∙ sym (cond-true _ _ _ (start_inner b e))

-- behind the name of a start tag
pub named_start : (s : List ℕ) → 0 < name_size s → scan_from at_open s ≡ shifted (name_size s) (scan_from in_name (drop (name_size s) s))
unfolding name_start name_byte
named_start [] h = absurd (omega arith)
named_start (b ∷ s) h =
    let e = begins_name b s h in
    ap (λ m. scan_by m (λ t. scan_from t s)) (cond-true _ _ _ e ∙ sym (cond-true _ _ _ (start_inner b e)))
    ∙ in_name_lem (b ∷ s)
    ∙ ap (λ k. shifted k (scan_from in_name (drop k (b ∷ s)))) (sym (name_leads (b ∷ s) h))

-- behind the name of an end tag
pub named_end : (s : List ℕ) → 0 < name_size s → scan_from end_first s ≡ shifted (name_size s) (scan_from end_name (drop (name_size s) s))
unfolding name_start name_byte
named_end [] h = absurd (omega arith)
named_end (b ∷ s) h =
    let e = begins_name b s h in
    ap (λ m. scan_by m (λ t. scan_from t s)) (cond-true _ _ _ e ∙ sym (cond-true _ _ _ (start_inner b e)))
    ∙ in_end_name (b ∷ s)
    ∙ ap (λ k. shifted k (scan_from end_name (drop k (b ∷ s)))) (sym (name_leads (b ∷ s) h))

-- with no name an end tag does not end
pub unnamed_end : (s : List ℕ) (k : Kind) (c : ℕ) → name_size s ≡ 0 → scan_from end_first s ≡ ends k c → ⊥
unfolding name_start
unnamed_end [] k c h e = cc
unnamed_end (b ∷ s) k c h e = by_start (is_name_start b) h e
  where
    by_start : (p : Bool) → cond p (1 + prefix_len is_name_byte s) 0 ≡ 0 → scan_by (cond p (on end_name) misfit) (λ t. scan_from t s) ≡ ends k c → ⊥
    by_start true h e = omega arith
    by_start false h e = cc

pub slashed : (s : List ℕ) → scan_from at_open (47 ∷ s) ≡ shifted 1 (scan_from end_first s)
unfolding name_start
slashed s = later_shifted (scan_from end_first s)

-- the name at the front
front_leading : (s : List ℕ) → front name_byte s ≡ take (prefix_len is_name_byte s) s
unfolding name_byte
front_leading [] = refl
front_leading (b ∷ s) = by_byte (is_name_byte b) (front_leading s)
  where
    by_byte : (p : Bool) → front name_byte s ≡ take (prefix_len is_name_byte s) s → cond p (b ∷ front name_byte s) [] ≡ take (cond p (1 + prefix_len is_name_byte s) 0) (b ∷ s)
    by_byte true ih = let e : 1 + prefix_len is_name_byte s ≡ suc (prefix_len is_name_byte s) = omega arith in ap (λ l. b ∷ l) ih ∙ sym (ap (λ i. take i (b ∷ s)) e)
    by_byte false ih = refl

pub front_name : (s : List ℕ) → 0 < name_size s → front name_byte s ≡ take (name_size s) s
front_name s h = front_leading s ∙ ap (λ k. take k s) (sym (name_leads s h))

pub front_take : (s : List ℕ) (c : ℕ) → prefix_len is_name_byte s ≤ c → front name_byte (take c s) ≡ front name_byte s
unfolding name_byte
front_take s zero h = sym (front_leading s ∙ (let e : prefix_len is_name_byte s ≡ 0 = omega arith in ap (λ k. take k s) e))
front_take [] (suc c) h = refl
front_take (b ∷ s) (suc c) h = by_byte (is_name_byte b) (front_take s c) h
  where
    by_byte : (p : Bool) → (prefix_len is_name_byte s ≤ c → front name_byte (take c s) ≡ front name_byte s) → cond p (1 + prefix_len is_name_byte s) 0 ≤ suc c → cond p (b ∷ front name_byte (take c s)) [] ≡ cond p (b ∷ front name_byte s) []
    by_byte true ih h = ap (λ l. b ∷ l) (ih (omega arith))
    by_byte false ih h = refl
