-- What the bytes of elements, content and documents tell. Assumes nothing.
use Rattle.std.proofs.Common.{◌≡◌, ℕ, ◌+◌, ◌<◌, ◌≤◌, Bool, true, false, cond, leb, List, [], ◌∷◌, ◌++◌, length, sym, refl, ap, ◌∙◌, append_assoc, arith, length-append}
use Rattle.std.proofs.lemmas.List.{append-nil}
use Rattle.std.specs.Str.{bytes_eq}
use Rattle.std.proofs.lemmas.Bool.{lt-leb, cond-true, cond-false}
use Rattle.std.proofs.lemmas.Slice.Eq.{bytes_eq-Decides}
use Rattle.vocabulary.specs.Limits.{most_open}
use Rattle.vocabulary.specs.declared.faults.Question.TheVariants.{TagTooDeep, EndTagUnmet}
use Rattle.message.specs.declared.events.Event.{Event}
use Rattle.message.specs.declared.events.Event.TheVariants.{Start, End}
use Rattle.message.specs.Sources.{closed}
use Rattle.markup.specs.Bytes.{open_angle}
use Rattle.markup.specs.Grammar.{Kind, closing}
use Rattle.markup.specs.Documents.{Element, emptied, filled, Content, byte, child, Misc, blank, Document, element_bytes, content_bytes, misc_bytes, document_bytes, code_or_0, element_events, content_events, document_events, element_depth, content_depth}
use Rattle.markup.specs.Readings.{Stand, Status, between, silent, refuse, left, acted, beginning}
use Rattle.markup.proofs.Runs.{Reading, reading, add, then, with, marks}
use Rattle.markup.proofs.Bytes.{Markup, starts, ends, remarks, orders, white_less}
use Rattle.markup.proofs.Forth.{accepts, names}

added : (a b : List Event) (r : Reading) → add a (add b r) ≡ add (a ++ b) r
added a b r = λ i. (sym (append_assoc a b r.0) i, r.1)

module _ (voc : List (List ℕ)) where
  marked : {k : Kind} {n m : List ℕ} → Markup k n m → (st : Stand) (p : ℕ) (t : List ℕ)
      → reading voc (between st) p (open_angle ∷ (m ++ t)) ≡ then voc t (acted voc st p k n) (p + (1 + length m))
  marked {k} {n} {m} h st p t = marks voc st p k m t (accepts h) ∙ ap (λ x. then voc t (acted voc st p k x) (p + (1 + length m))) (names h)

  -- a start tag, where there is room for one more
  starting : (ns : List (List ℕ)) (p : ℕ) (t : List ℕ) (q : ℕ) (es : List Event) (x : Status) → length ns < most_open
      → then voc t (cond (leb most_open (length ns)) (refuse TagTooDeep p) (record { told = es; next = x })) q ≡ add es (reading voc x q t)
  starting ns p t q es x h = ap (λ y. then voc t y q) (cond-false (leb most_open (length ns)) (refuse TagTooDeep p) (record { told = es; next = x }) (lt-leb _ _ h))

  -- the end tag of the innermost element
  ending : (n : List ℕ) (ns : List (List ℕ)) (p : ℕ) (t : List ℕ) (q : ℕ)
      → then voc t (acted voc (with (n ∷ ns) false) p closing n) q ≡ add (End p ∷ []) (reading voc (left ns) q t)
  ending n ns p t q = ap (λ y. then voc t y q) (cond-true (bytes_eq n n) (record { told = End p ∷ []; next = left ns }) (refuse EndTagUnmet p) ((bytes_eq-Decides n n).1 refl))

  -- markup that is passed over
  skipped : {k : Kind} {n m : List ℕ} → Markup k n m → (st : Stand) → ((p : ℕ) → acted voc st p k n ≡ silent (between st)) → (b : List ℕ) (p : ℕ) (t : List ℕ)
      → reading voc (between st) p ((open_angle ∷ (m ++ b)) ++ t) ≡ reading voc (between st) (p + (1 + length m)) (b ++ t)
  skipped {m = m} h st i b p t =
      ap (λ x. reading voc (between st) p (open_angle ∷ x)) (append_assoc m b t) ∙ marked h st p (b ++ t) ∙ ap (λ x. then voc (b ++ t) x (p + (1 + length m))) (i p)

  -- the place behind markup and bytes b
  behind_both : (p : ℕ) (m b : List ℕ) → p + (1 + length m) + length b ≡ p + length (open_angle ∷ (m ++ b))
  behind_both p m b = omega (arith, length-append m b)

  mutual
    element_told : (e : Element) (ns : List (List ℕ)) (p : ℕ) (t : List ℕ) → element_depth e + length ns ≤ most_open
        → reading voc (between (with ns false)) p (element_bytes e ++ t) ≡ add (element_events voc p e) (reading voc (left ns) (p + length (element_bytes e)) t)
    element_told (emptied n s h) ns p t d =
        let c : p + (1 + length s) ≡ p + length (open_angle ∷ s) = omega arith in
        marked (starts h) (with ns false) p t ∙ starting ns p t (p + (1 + length s)) _ _ (omega arith)
        ∙ ap (λ q. add (Start (code_or_0 voc n) p ∷ End p ∷ []) (reading voc (left ns) q t)) c
    element_told (filled n s h c e g) ns p t d =
        let b = content_bytes c in
        let q = p + (1 + length s) in
        let r = q + length b in
        let flat : (s ++ (b ++ (open_angle ∷ e))) ++ t ≡ s ++ (b ++ (open_angle ∷ (e ++ t))) = simp append_assoc in
        let size : r + (1 + length e) ≡ p + length (open_angle ∷ (s ++ (b ++ (open_angle ∷ e)))) = omega (arith, length-append s (b ++ (open_angle ∷ e)), length-append b (open_angle ∷ e)) in
        ap (λ x. reading voc (between (with ns false)) p (open_angle ∷ x)) flat
        ∙ marked (starts h) (with ns false) p (b ++ (open_angle ∷ (e ++ t))) ∙ starting ns p (b ++ (open_angle ∷ (e ++ t))) q _ _ (omega arith)
        ∙ ap (add (Start (code_or_0 voc n) p ∷ []))
        (content_told c n ns q (open_angle ∷ (e ++ t)) (omega arith)
        ∙ ap (add (content_events voc q c)) (marked (ends g) (with (n ∷ ns) false) r t ∙ ending n ns r t (r + (1 + length e)))
        ∙ added (content_events voc q c) (End r ∷ []) (reading voc (left ns) (r + (1 + length e)) t))
        ∙ ap (λ x. add (element_events voc p (filled n s h c e g)) (reading voc (left ns) x t)) size

    content_told : (c : Content) (n : List ℕ) (ns : List (List ℕ)) (p : ℕ) (t : List ℕ) → content_depth c + length (n ∷ ns) ≤ most_open
        → reading voc (left (n ∷ ns)) p (content_bytes c ++ t) ≡ add (content_events voc p c) (reading voc (left (n ∷ ns)) (p + length (content_bytes c)) t)
    content_told Content.nothing n ns p t d = let z : p ≡ p + 0 = omega arith in ap (λ x. reading voc (left (n ∷ ns)) x t) z
    content_told (byte b h c) n ns p t d =
        let size : p + 1 + length (content_bytes c) ≡ p + length (b ∷ content_bytes c) = omega arith in
        ap (λ x. then voc (content_bytes c ++ t) x (p + 1)) (cond-false _ _ _ h) ∙ content_told c n ns (p + 1) t d
        ∙ ap (λ x. add (content_events voc (p + 1) c) (reading voc (left (n ∷ ns)) x t)) size
    content_told (Content.noted s h c) n ns p t d =
        skipped (remarks h) (with (n ∷ ns) false) (λ _. refl) (content_bytes c) p t ∙ content_told c n ns (p + (1 + length s)) t d
        ∙ ap (λ x. add (content_events voc (p + (1 + length s)) c) (reading voc (left (n ∷ ns)) x t)) (behind_both p s (content_bytes c))
    content_told (Content.ordered s h c) n ns p t d =
        skipped (orders h) (with (n ∷ ns) false) (λ _. refl) (content_bytes c) p t ∙ content_told c n ns (p + (1 + length s)) t d
        ∙ ap (λ x. add (content_events voc (p + (1 + length s)) c) (reading voc (left (n ∷ ns)) x t)) (behind_both p s (content_bytes c))
    content_told (child e c) n ns p t d =
        let q = p + length (element_bytes e) in
        let size : q + length (content_bytes c) ≡ p + length (element_bytes e ++ content_bytes c) = omega (arith, length-append (element_bytes e) (content_bytes c)) in
        ap (reading voc (left (n ∷ ns)) p) (append_assoc (element_bytes e) (content_bytes c) t)
        ∙ element_told e (n ∷ ns) p (content_bytes c ++ t) (omega arith)
        ∙ ap (add (element_events voc p e)) (content_told c n ns q t (omega arith))
        ∙ added (element_events voc p e) (content_events voc q c) (reading voc (left (n ∷ ns)) (q + length (content_bytes c)) t)
        ∙ ap (λ x. add (content_events voc p (child e c)) (reading voc (left (n ∷ ns)) x t)) size

  -- what stands around the root tells nothing
  misc_told : (m : Misc) (o : Bool) (p : ℕ) (t : List ℕ)
      → reading voc (between (with [] o)) p (misc_bytes m ++ t) ≡ reading voc (between (with [] o)) (p + length (misc_bytes m)) t
  misc_told Misc.nothing o p t = let z : p ≡ p + 0 = omega arith in ap (λ x. reading voc (between (with [] o)) x t) z
  misc_told (blank b h m) o p t =
      let size : p + 1 + length (misc_bytes m) ≡ p + length (b ∷ misc_bytes m) = omega arith in
      ap (λ x. then voc (misc_bytes m ++ t) x (p + 1)) (cond-false _ _ _ (white_less b h) ∙ cond-true _ _ _ h) ∙ misc_told m o (p + 1) t
      ∙ ap (λ x. reading voc (between (with [] o)) x t) size
  misc_told (Misc.noted s h m) o p t =
      skipped (remarks h) (with [] o) (λ _. refl) (misc_bytes m) p t ∙ misc_told m o (p + (1 + length s)) t
      ∙ ap (λ x. reading voc (between (with [] o)) x t) (behind_both p s (misc_bytes m))
  misc_told (Misc.ordered s h m) o p t =
      skipped (orders h) (with [] o) (λ _. refl) (misc_bytes m) p t ∙ misc_told m o (p + (1 + length s)) t
      ∙ ap (λ x. reading voc (between (with [] o)) x t) (behind_both p s (misc_bytes m))

  pub document_told : (d : Document) → element_depth d.root ≤ most_open → reading voc beginning 0 (document_bytes d) ≡ (document_events voc d, closed)
  document_told d h =
      let a = misc_bytes d.before in
      let b = element_bytes d.root in
      let c = misc_bytes d.after in
      let z : 0 + length a ≡ length a = omega arith in
      misc_told d.before false 0 (b ++ c) ∙ ap (λ x. reading voc beginning x (b ++ c)) z
      ∙ element_told d.root [] (length a) c (omega arith)
      ∙ ap (λ x. add (document_events voc d) (reading voc (left []) (length a + length b) x)) (sym (append-nil c))
      ∙ ap (add (document_events voc d)) (misc_told d.after true (length a + length b) [])
      ∙ (λ i. (append-nil (document_events voc d) i, closed))
