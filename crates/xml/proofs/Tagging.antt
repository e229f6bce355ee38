-- A tag from its `<`, by what comes behind its name. Assumes nothing.
use Rattle.std.proofs.Common.{◌≡◌, ℕ, suc, ◌+◌, ◌-◌, ◌<◌, ◌≤◌, Bool, true, false, List, ◌∷◌, length, take, drop, Ok, Err, Result, sym, refl, ap, ◌∙◌, subst, arith, length-drop}
use Rattle.std.proofs.lemmas.List.{drop-drop}
use Rattle.vocabulary.specs.declared.faults.Fault.{Fault}
use Rattle.vocabulary.specs.Names.{name_size}
use Rattle.markup.specs.Bytes.{name_byte, front}
use Rattle.markup.specs.Grammar.{Kind, closing}
use Rattle.markup.specs.Tags.{at_open, in_name, end_first, end_name, name_in, Scan, cut_short, ends, begins_none, misfits, scan_from}
use Rattle.markup.specs.Runs.{kind_of, shifted}
use Rattle.markup.specs.declared.tags.TagKind.{TagKind}
use Rattle.markup.specs.declared.tags.TagKind.TheVariants.{Opening, Empty, Closing}
use Rattle.markup.proofs.Scanning.{shifted_twice}
use Rattle.markup.proofs.Fronts.{name_leads, named_start, named_end, unnamed_end, slashed, front_name, front_take}
use Rattle.markup.proofs.Bounds.{Reaches, reaches, Comes, start_kind, end_kind, start_comes, end_comes}
use Rattle.xml.specs.declared.items.Span.{Span}
use Rattle.xml.specs.declared.tags.Tagged.{Tagged}
use Rattle.xml.specs.Items.{cut}
use Rattle.xml.specs.Tags.{fault_by, Reads, TagIs, StartTagged, EndTagged}

never : {X : Type 0} → ◌≡◌ {A = Bool} false true → X
never e = absurd cc

-- the bytes of a name that begins at the place n
pub part_is : (m : List ℕ) (n size : ℕ) → take (n + size - n) (drop n m) ≡ take size (drop n m)
part_is m n size = let e : n + size - n ≡ size = omega arith in ap (λ k. take k (drop n m)) e

spelt_by : (m : List ℕ) (n size c : ℕ) → 0 < name_size (drop n m) → size ≡ name_size (drop n m) → size ≤ c → (take (n + size - n) (drop n m) ≡ front name_byte (drop n m)) × (take (n + size - n) (drop n m) ≡ front name_byte (take c (drop n m)))
spelt_by m n size c some e le =
    let s = drop n m in
    let a : take (n + size - n) s ≡ front name_byte s = part_is m n size ∙ ap (λ k. take k s) e ∙ sym (front_name s some) in
    let l = name_leads s some in
    let b : front name_byte (take c s) ≡ front name_byte s = front_take s c (omega arith) in
    (a, a ∙ sym b)

-- what ends behind n bytes ends later, and as what it ends behind them
abbrev Behind : ℕ → Kind → ℕ → Scan → Type 0
Behind n k c x = (n < c) × (x ≡ ends k (c - n))

shifted_back : (l n c : ℕ) (k : Kind) (x : Scan) → Reaches l x → shifted n x ≡ ends k c → Behind n k c x
shifted_back l n c k cut_short r e = absurd cc
shifted_back l n c k (ends j d) r e = let z : n + d ≡ c = cc in let q : j ≡ k = cc in let w : d ≡ c - n = omega arith in (omega arith, λ i. ends (q i) (w i))
shifted_back l n c k begins_none r e = absurd cc
shifted_back l n c k (misfits d) r e = absurd cc

module _ (m : List ℕ) (p : ℕ) where
  pub tag_is : (k : Kind) (t : Tagged) (n size : ℕ) → scan_from at_open (drop (p + 1) m) ≡ ends k t.len → 1 < t.len → t.name ≡ record { start = n; end = n + size } → n + size ≤ length m → take (n + size - n) (drop n m) ≡ name_in k (take t.len (drop (p + 1) m)) → TagIs m p k t
  tag_is k t n size scan long at le so =
      let far = subst (Reaches (length (drop (p + 1) m))) scan (reaches at_open (drop (p + 1) m)) in
      let l = length-drop (p + 1) m in
      let a = ap (λ (x : Span). x.start) at in
      let b = ap (λ (x : Span). x.end) at in
      record { scan = scan; long = long; reach = omega arith; order = omega arith; inside = omega arith; spelt = ap (cut m) at ∙ so }

  -- a start tag
  module _ (size : ℕ) (some : 0 < name_size (drop (p + 1) m)) (e : size ≡ name_size (drop (p + 1) m)) (le : p + 1 + size ≤ length m) where
    start_scan : shifted (p + 1 + size - (p + 1)) (scan_from in_name (drop (p + 1 + size) m)) ≡ scan_from at_open (drop (p + 1) m)
    start_scan =
        let n : p + 1 + size - (p + 1) ≡ size = omega arith in
        ap (λ k. shifted k (scan_from in_name (drop (p + 1 + size) m))) n
        ∙ sym (ap (λ l. shifted size (scan_from in_name l)) (drop-drop size (p + 1) m))
        ∙ sym (ap (λ k. shifted k (scan_from in_name (drop k (drop (p + 1) m)))) (sym e))
        ∙ sym (named_start (drop (p + 1) m) some)

    start_by : (k : TagKind) (c : ℕ) → scan_from in_name (drop (p + 1 + size) m) ≡ ends (kind_of k) c → (k ≡ Closing → ⊥) × ((bs : List ℕ) → name_in (kind_of k) bs ≡ front name_byte bs)
    start_by Opening c h = (λ q. cc, λ bs. refl)
    start_by Empty c h = (λ q. cc, λ bs. refl)
    start_by Closing c h = never (subst (Comes start_kind) h (start_comes in_name (drop (p + 1 + size) m) refl))

    pub start_tagged : (r : Result Tagged Fault) → Reads p (record { start = p + 1; end = p + 1 + size }) (shifted (p + 1 + size - (p + 1)) (scan_from in_name (drop (p + 1 + size) m))) r → StartTagged m p r
    start_tagged (Err f) h = ap (fault_by p) (sym start_scan) ∙ h
    start_tagged (Ok t) h =
        let n : p + 1 + size - (p + 1) ≡ size = omega arith in
        let back = shifted_back _ _ _ _ (scan_from in_name (drop (p + 1 + size) m)) (reaches in_name (drop (p + 1 + size) m)) h.1 in
        let by = start_by t.kind _ back.1 in
        let so = spelt_by m (p + 1) size t.len some e (omega arith) in (
          tag_is (kind_of t.kind) t (p + 1) size (sym start_scan ∙ h.1) (omega arith) h.0 le (so.1 ∙ sym (by.1 _)),
          by.0,
          ap (λ (x : Span). x.start) h.0,
          ap (cut m) h.0 ∙ so.0,
        )

  -- an end tag
  module _ (size : ℕ) (e : size ≡ name_size (drop (p + 2) m)) (sl : drop (p + 1) m ≡ 47 ∷ drop (p + 2) m) (le : p + 2 + size ≤ length m) where
    pub end_scan : 0 < size → shifted (1 + size) (scan_from end_name (drop (p + 2 + size) m)) ≡ scan_from at_open (drop (p + 1) m)
    end_scan some =
        let s = drop (p + 2) m in
        sym (
        ap (scan_from at_open) sl
        ∙ slashed s
        ∙ ap (shifted 1) (named_end s (omega arith) ∙ ap (λ k. shifted k (scan_from end_name (drop k s))) (sym e))
        ∙ shifted_twice 1 size (scan_from end_name (drop size s))
        ∙ ap (λ l. shifted (1 + size) (scan_from end_name l)) (drop-drop size (p + 2) m)
        )

    first_scan : size ≡ 0 → shifted (p + 2 + size - (p + 1)) (scan_from end_first (drop (p + 2 + size) m)) ≡ scan_from at_open (drop (p + 1) m)
    first_scan z =
        let n : p + 2 + size - (p + 1) ≡ 1 = omega arith in
        let d : p + 2 + size ≡ p + 2 = omega arith in
        (λ i. shifted (n i) (scan_from end_first (drop (d i) m))) ∙ sym (ap (scan_from at_open) sl ∙ slashed (drop (p + 2) m))

    -- which has the name that stands there
    pub end_is : (t : Tagged) → 0 < size → 1 + size < t.len → scan_from at_open (drop (p + 1) m) ≡ ends closing t.len → t.name ≡ record { start = p + 2; end = p + 2 + size } → TagIs m p closing t
    end_is t some long scan at =
        let c = t.len - 1 in
        let one : t.len ≡ suc c = omega arith in
        let so = (spelt_by m (p + 2) size c (omega arith) e (omega arith)).1 in
        tag_is closing t (p + 2) size scan (omega arith) at le (so ∙ sym (λ i. front name_byte (drop 1 (take (one i) (sl i)))))

    closes_by : (k : TagKind) (c : ℕ) → scan_from end_name (drop (p + 2 + size) m) ≡ ends (kind_of k) c → kind_of k ≡ closing
    closes_by Opening c h = never (subst (Comes end_kind) h (end_comes end_name (drop (p + 2 + size) m) refl))
    closes_by Empty c h = never (subst (Comes end_kind) h (end_comes end_name (drop (p + 2 + size) m) refl))
    closes_by Closing c h = refl

    pub unnamed_tagged : size ≡ 0 → (r : Result Tagged Fault) → Reads p (record { start = p + 2; end = p + 2 + size }) (shifted (p + 2 + size - (p + 1)) (scan_from end_first (drop (p + 2 + size) m))) r → EndTagged m p r
    unnamed_tagged z (Err f) h = ap (fault_by p) (sym (first_scan z)) ∙ h
    unnamed_tagged z (Ok t) h =
        let back = shifted_back _ _ _ _ (scan_from end_first (drop (p + 2 + size) m)) (reaches end_first (drop (p + 2 + size) m)) h.1 in
        let d : p + 2 + size ≡ p + 2 = omega arith in
        absurd (unnamed_end (drop (p + 2) m) _ _ (omega arith) (sym (ap (λ k. scan_from end_first (drop k m)) d) ∙ back.1))

    pub named_tagged : 0 < size → (r : Result Tagged Fault) → Reads p (record { start = p + 2; end = p + 2 + size }) (shifted (p + 2 + size - (p + 1)) (scan_from end_name (drop (p + 2 + size) m))) r → EndTagged m p r
    named_tagged some (Err f) h =
        let n : p + 2 + size - (p + 1) ≡ 1 + size = omega arith in
        ap (fault_by p) (sym (end_scan some) ∙ sym (ap (λ k. shifted k (scan_from end_name (drop (p + 2 + size) m))) n)) ∙ h
    named_tagged some (Ok t) h =
        let n : p + 2 + size - (p + 1) ≡ 1 + size = omega arith in
        let x = scan_from end_name (drop (p + 2 + size) m) in
        let back = shifted_back _ _ _ _ x (reaches end_name (drop (p + 2 + size) m)) h.1 in
        let k = closes_by t.kind _ back.1 in
        end_is t some (omega arith) (sym (end_scan some) ∙ sym (ap (λ k. shifted k x) n) ∙ h.1 ∙ ap (λ k. ends k t.len) k) h.0
