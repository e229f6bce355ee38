-- The name of a tag stands alone in its bytes, and an end tag of a known name. Assumes nothing.
use Rattle.std.proofs.Common.{◌≡◌, ℕ, zero, suc, ◌+◌, ◌-◌, ◌<◌, ◌≤◌, Bool, true, false, cond, eqb, eqb-true, eq-eqb, List, [], ◌∷◌, ◌++◌, length, get_or, take, drop, sym, refl, ap, ◌∙◌, subst, arith, length-drop}
use Rattle.std.specs.List.{prefix_len}
use Rattle.std.proofs.lemmas.List.{get_or-drop, length-take-le, drop_more}
use Rattle.std.proofs.lemmas.List.Sums.{prefix_len-le-length}
use Rattle.std.proofs.lemmas.Bool.{cond-true, cond-false}
use Rattle.vocabulary.specs.Names.{is_name_start, is_name_byte, name_size}
use Rattle.markup.specs.Bytes.{close_angle, name_start, name_byte, white, begins, front}
use Rattle.markup.specs.Runs.{shifted}
use Rattle.markup.specs.Grammar.{Kind, opening, closing}
use Rattle.markup.specs.Tags.{at_open, end_first, end_name, on, after, Scan, cut_short, ends, begins_none, misfits, scan_by, scan_from}
use Rattle.markup.proofs.Bounds.{end_kind, quiet_kind, ending, Comes, comes_by, end_comes, quiet_comes}
use Rattle.markup.proofs.Fronts.{begins_name, name_leads, named_start, front_name, front_take}
use Rattle.markup.specs.declared.tags.TagKind.TheVariants.{Closing}
use Rattle.xml.specs.declared.items.Span.{Span}
use Rattle.xml.specs.declared.tags.Tagged.{Tagged}
use Rattle.xml.specs.Items.{cut, IsName}
use Rattle.xml.specs.Tags.{TagIs}
use Rattle.xml.proofs.Tagging.{part_is, end_is, end_scan}

pub name_within : (s : List ℕ) → name_size s ≤ length s
name_within [] = omega arith
name_within (b ∷ s) = let l = prefix_len-le-length is_name_byte s in by_start (is_name_start b) (omega arith)
  where
    by_start : (p : Bool) → 1 + prefix_len is_name_byte s ≤ suc (length s) → cond p (1 + prefix_len is_name_byte s) 0 ≤ suc (length s)
    by_start true h = h
    by_start false h = omega arith

-- the first name bytes, cut off, are as many
leading_whole : (s : List ℕ) → prefix_len is_name_byte (take (prefix_len is_name_byte s) s) ≡ prefix_len is_name_byte s
leading_whole [] = refl
leading_whole (b ∷ s) = by_byte (is_name_byte b) refl (leading_whole s)
  where
    by_byte : (p : Bool) → is_name_byte b ≡ p → prefix_len is_name_byte (take (prefix_len is_name_byte s) s) ≡ prefix_len is_name_byte s → prefix_len is_name_byte (take (cond p (1 + prefix_len is_name_byte s) 0) (b ∷ s)) ≡ cond p (1 + prefix_len is_name_byte s) 0
    by_byte true e ih =
        let n : 1 + prefix_len is_name_byte s ≡ suc (prefix_len is_name_byte s) = omega arith in
        ap (λ k. prefix_len is_name_byte (take k (b ∷ s))) n ∙ cond-true _ _ _ e ∙ ap (λ k. 1 + k) ih
    by_byte false e ih = refl

-- a name that goes on for n bytes and stops there
leading_stops : (n : ℕ) (s : List ℕ) → prefix_len is_name_byte (take n s) ≡ n → n < length s → is_name_byte (get_or s n 0) ≡ false → prefix_len is_name_byte s ≡ n
leading_stops n [] all lt stop = absurd (omega arith)
leading_stops zero (b ∷ s) all lt stop = cond-false _ _ _ stop
leading_stops (suc n) (b ∷ s) all lt stop = by_byte (is_name_byte b) (λ h. leading_stops n s h (omega arith) stop) all
  where
    by_byte : (p : Bool) → (prefix_len is_name_byte (take n s) ≡ n → prefix_len is_name_byte s ≡ n) → cond p (1 + prefix_len is_name_byte (take n s)) 0 ≡ suc n → cond p (1 + prefix_len is_name_byte s) 0 ≡ suc n
    by_byte true ih h = let e = ih (omega arith) in omega arith
    by_byte false ih h = absurd (omega arith)

name_stops : (s : List ℕ) (n : ℕ) → 0 < name_size (take n s) → name_size (take n s) ≡ n → n < length s → is_name_byte (get_or s n 0) ≡ false → name_size s ≡ n
name_stops [] n some all lt stop = absurd (omega arith)
name_stops (b ∷ s) zero some all lt stop = absurd (omega arith)
name_stops (b ∷ s) (suc n) some all lt stop =
    let e = begins_name b (take n s) some in
    let here : 1 + prefix_len is_name_byte (take n s) ≡ suc n = sym (cond-true _ _ _ e) ∙ all in
    let first = leading_stops n s (omega arith) (omega arith) stop in
    let there : 1 + prefix_len is_name_byte s ≡ suc n = omega arith in
    cond-true _ _ _ e ∙ there

name_whole : (s : List ℕ) → 0 < name_size s → name_size (take (name_size s) s) ≡ name_size s
name_whole [] some = refl
name_whole (b ∷ s) some =
    let e = begins_name b s some in
    let n : name_size (b ∷ s) ≡ suc (prefix_len is_name_byte s) = cond-true _ _ _ e ∙ (let k : 1 + prefix_len is_name_byte s ≡ suc (prefix_len is_name_byte s) = omega arith in k) in
    ap (λ k. name_size (take k (b ∷ s))) n ∙ cond-true _ _ _ e ∙ ap (λ k. 1 + k) (leading_whole s) ∙ sym (cond-true _ _ _ e)

pub cut_length : (m : List ℕ) (x : Span) → x.start ≤ x.end → x.end ≤ length m → length (cut m x) ≡ x.end - x.start
cut_length m x order inside = let l = length-drop x.start m in length-take-le (x.end - x.start) (drop x.start m) (omega arith)

-- a span of the name behind a `<` holds one name
pub opened_name : (m : List ℕ) (p : ℕ) (x : Span) → 0 < name_size (drop (p + 1) m) → x.start ≤ x.end → x.end ≤ length m → cut m x ≡ front name_byte (drop (p + 1) m) → IsName m x
opened_name m p x some order inside spelt =
    let s = drop (p + 1) m in
    let is : cut m x ≡ take (name_size s) s = spelt ∙ front_name s some in
    let size : name_size (cut m x) ≡ name_size s = ap name_size is ∙ name_whole s some in
    let long : length (cut m x) ≡ name_size s = ap length is ∙ length-take-le (name_size s) s (name_within s) in
    let far = cut_length m x order inside in
    record { some = omega arith; inside = inside; spelt = omega arith }

-- an end tag of a known name, with its `>` right behind it
pub end_of_name : (m : List ℕ) (p : ℕ) (name : List ℕ) → 0 < length name → length name ≤ name_size name → p + 2 + length name < length m → get_or m (p + 2 + length name) 0 ≡ 62 → drop (p + 1) m ≡ 47 ∷ drop (p + 2) m → cut m (record { start = p + 2; end = p + 2 + length name }) ≡ name → TagIs m p closing (record { kind = Closing; name = record { start = p + 2; end = p + 2 + length name }; len = 1 + length name + 1 })
unfolding name_byte white
end_of_name m p name some whole lt at sl same =
    let s = drop (p + 2) m in
    let n = length name in
    let taken : take n s ≡ name = sym (part_is m (p + 2) n) ∙ same in
    let size : name_size (take n s) ≡ name_size name = ap name_size taken in
    let most = name_within name in
    let l = length-drop (p + 2) m in
    let byte : get_or s n 0 ≡ 62 = get_or-drop (p + 2) m n 0 ∙ at in
    let e : n ≡ name_size s = sym (name_stops s n (omega arith) (omega arith) (omega arith) (ap is_name_byte byte)) in
    let ahead : drop (p + 2 + n) m ≡ 62 ∷ drop (p + 2 + n + 1) m = drop_more m (p + 2 + n) 0 lt ∙ ap (λ b. b ∷ drop (p + 2 + n + 1) m) at in
    let is : scan_from end_name (drop (p + 2 + n) m) ≡ ends closing 1 = ap (scan_from end_name) ahead in
    end_is m p n e sl (omega arith) _ some (omega arith) (sym (end_scan m p n e sl (omega arith) some) ∙ ap (shifted (1 + n)) is) refl

-- what ends as a start tag begins with a name
start_named : (s : List ℕ) (c : ℕ) → scan_from at_open s ≡ ends opening c → 0 < name_size s
unfolding name_start
start_named [] c e = absurd cc
start_named (b ∷ s) c e = by_start (is_name_start b) refl
  where
    never : ◌≡◌ {A = Bool} false true → ⊥
    never h = cc

    by_slash : (r : Bool) → is_name_start b ≡ false → eqb b 47 ≡ r → ⊥
    by_slash true q r =
        let is : after at_open b ≡ on end_first = cond-false _ _ _ q ∙ cond-true _ _ _ r in
        let come : Comes end_kind (scan_by (on end_first) (λ t. scan_from t s)) = comes_by ending end_kind s (on end_first) refl (λ t g. end_comes t s g) in
        never (subst (Comes end_kind) (ap (λ m. scan_by m (λ t. scan_from t s)) (sym is) ∙ e) come)
    by_slash false q r = never (subst (Comes quiet_kind) e (quiet_comes (b ∷ s) r q))

    by_start : (p : Bool) → is_name_start b ≡ p → 0 < cond p (1 + prefix_len is_name_byte s) 0
    by_start true q = omega arith
    by_start false q = absurd (by_slash (eqb b 47) q refl)

shifted_least : (n c : ℕ) (k : Kind) (x : Scan) → shifted n x ≡ ends k c → n ≤ c
shifted_least n c k cut_short e = absurd cc
shifted_least n c k (ends j d) e = let z : n + d ≡ c = cc in omega arith
shifted_least n c k begins_none e = absurd cc
shifted_least n c k (misfits d) e = absurd cc

-- the span of a start tag's name holds one name
pub tag_name : (m : List ℕ) (p : ℕ) (t : Tagged) → TagIs m p opening t → IsName m t.name
tag_name m p t is =
    let s = drop (p + 1) m in
    let some : 0 < name_size s = start_named s t.len is.scan in
    let far : name_size s ≤ t.len = shifted_least _ _ _ _ (sym (named_start s some) ∙ is.scan) in
    let leads : name_size s ≡ prefix_len is_name_byte s = name_leads s some in
    let spelt : cut m t.name ≡ front name_byte s = is.spelt ∙ front_take s t.len (omega arith) in
    opened_name m p t.name some is.order is.inside spelt

-- a name and a `>` stand in front exactly where there is room for them and both are found
pub stands : (name s : List ℕ) → length name < length s → take (length name) s ≡ name → get_or s (length name) 0 ≡ 62 → begins (name ++ close_angle ∷ []) s ≡ true
stands [] [] lt same at = absurd (omega arith)
stands [] (b ∷ s) lt same at = cond-true _ _ _ (eq-eqb 62 b (sym at))
stands (a ∷ name) [] lt same at = absurd (omega arith)
stands (a ∷ name) (b ∷ s) lt same at =
    let e : a ≡ b = cc in
    let rest : take (length name) s ≡ name = cc in
    cond-true _ _ _ (eq-eqb a b e) ∙ stands name s (omega arith) rest at

pub stood : (name s : List ℕ) → begins (name ++ close_angle ∷ []) s ≡ true → (length name < length s) × (take (length name) s ≡ name) × (get_or s (length name) 0 ≡ 62)
stood [] [] h = absurd cc
stood [] (b ∷ s) h = by_byte (eqb 62 b) refl h
  where
    by_byte : (p : Bool) → eqb 62 b ≡ p → cond p true false ≡ true → (0 < suc (length s)) × (◌≡◌ {A = List ℕ} [] []) × (b ≡ 62)
    by_byte true e h = (omega arith, refl, sym (eqb-true 62 b e))
    by_byte false e h = absurd cc
stood (a ∷ name) [] h = absurd cc
stood (a ∷ name) (b ∷ s) h = by_byte (eqb a b) refl (stood name s) h
  where
    by_byte : (p : Bool) → eqb a b ≡ p → (begins (name ++ close_angle ∷ []) s ≡ true → (length name < length s) × (take (length name) s ≡ name) × (get_or s (length name) 0 ≡ 62)) → cond p (begins (name ++ close_angle ∷ []) s) false ≡ true → (suc (length name) < suc (length s)) × (b ∷ take (length name) s ≡ a ∷ name) × (get_or s (length name) 0 ≡ 62)
    by_byte true e ih h =
        let far = ih h in
        let same : a ≡ b = eqb-true a b e in
        let rest : take (length name) s ≡ name = far.1 in
        (omega arith, cc, far.2)
    by_byte false e ih h = absurd cc

-- what does not hold is false
pub untrue : (b : Bool) → (b ≡ true → ⊥) → false ≡ b
untrue true h = absurd (h refl)
untrue false h = refl

-- the same at a place of a message
pub stands_at : (m : List ℕ) (p : ℕ) (name : List ℕ) → p + 2 + length name < length m → get_or m (p + 2 + length name) 0 ≡ 62 → cut m (record { start = p + 2; end = p + 2 + length name }) ≡ name → begins (name ++ close_angle ∷ []) (drop (p + 2) m) ≡ true
stands_at m p name lt at same =
    let n = length name in
    let l = length-drop (p + 2) m in
    stands name (drop (p + 2) m) (omega arith) (sym (part_is m (p + 2) n) ∙ same) (get_or-drop (p + 2) m n 0 ∙ at)

pub stood_at : (m : List ℕ) (p : ℕ) (name : List ℕ) → p + 2 ≤ length m → begins (name ++ close_angle ∷ []) (drop (p + 2) m) ≡ true → (p + 2 + length name < length m) × (cut m (record { start = p + 2; end = p + 2 + length name }) ≡ name) × (get_or m (p + 2 + length name) 0 ≡ 62)
stood_at m p name within h =
    let n = length name in
    let l = length-drop (p + 2) m in
    let far = stood name (drop (p + 2) m) h in
    (omega arith, part_is m (p + 2) n ∙ far.1, sym (get_or-drop (p + 2) m n 0) ∙ far.2)
