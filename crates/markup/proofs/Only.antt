-- A message that closes is the bytes of a document: by the open elements, what may still come. Assumes nothing.
use Rattle.std.proofs.Common.{◌≡◌, ℕ, ◌+◌, ◌-◌, ◌<◌, ◌≤◌, Bool, true, false, cond, eqb, leb, List, [], ◌∷◌, ◌++◌, length, sym, refl, ap, ◌∙◌, subst, append_assoc, arith}
use Rattle.std.specs.Str.{bytes_eq}
use Rattle.std.proofs.lemmas.Bool.{eqb-true, leb-false, cond_both}
use Rattle.std.proofs.lemmas.Slice.Eq.{bytes_eq-Decides}
use Rattle.vocabulary.specs.Limits.{most_open}
use Rattle.vocabulary.specs.declared.faults.Fault.{Fault}
use Rattle.message.specs.Sources.{closed, faulted}
use Rattle.markup.specs.Bytes.{open_angle, white}
use Rattle.markup.specs.Grammar.{Kind, opening, empty, closing, comment, instruction, StartTag, start_tag, EndTag, Comment, Instruction}
use Rattle.markup.specs.Tags.{at_open, Move, on, ended, misplaced, misfit}
use Rattle.markup.specs.Documents.{Element, emptied, filled, Content, byte, child, Misc, blank, Document, element_bytes, content_bytes, misc_bytes, document_bytes, element_depth, content_depth}
use Rattle.markup.specs.Readings.{Stand, Status, between, behind, stopped, Step, is_empty, acted, moved, texted, step, ending_from, beginning}
use Rattle.markup.proofs.Runs.{next, final, with}
use Rattle.markup.proofs.Bytes.{Markup, starts, ends, remarks, orders}
use Rattle.markup.proofs.Forth.{names}
use Rattle.markup.proofs.Back.{accepted}

-- what may still come where these names are open, and the root has ended or not
data Pending : List (List ℕ) → Bool → List ℕ → Type 0 where
  behind_root : (m : Misc) → Pending [] true (misc_bytes m)
  before_root : (m : Misc) (e : Element) (a : Misc) → element_depth e ≤ most_open → Pending [] false (misc_bytes m ++ (element_bytes e ++ misc_bytes a))
  inside : {ns : List (List ℕ)} {bs : List ℕ} (n e : List ℕ) (c : Content) → EndTag n e → content_depth c ≤ most_open - length (n ∷ ns) → Pending ns (is_empty ns) bs
      → Pending (n ∷ ns) false (content_bytes c ++ (open_angle ∷ (e ++ bs)))
  -- no reading stands so
  odd : {n : List ℕ} {ns : List (List ℕ)} {bs : List ℕ} → Pending (n ∷ ns) true bs

p_byte : {n : List ℕ} {ns : List (List ℕ)} {o : Bool} {bs : List ℕ} (b : ℕ) → eqb b open_angle ≡ false → Pending (n ∷ ns) o bs → Pending (n ∷ ns) o (b ∷ bs)
p_byte b h (inside n e c g d p) = inside n e (byte b h c) g d p
p_byte b h odd = odd

p_blank : {o : Bool} {bs : List ℕ} (b : ℕ) → white b ≡ true → Pending [] o bs → Pending [] o (b ∷ bs)
p_blank b h (behind_root m) = behind_root (blank b h m)
p_blank b h (before_root m e a d) = before_root (blank b h m) e a d

p_note : {ns : List (List ℕ)} {o : Bool} {bs s : List ℕ} → Comment s → Pending ns o bs → Pending ns o (open_angle ∷ (s ++ bs))
p_note {s = s} h (behind_root m) = behind_root (Misc.noted s h m)
p_note {s = s} h (before_root m e a d) = subst (λ x. Pending [] false (open_angle ∷ x)) (append_assoc s (misc_bytes m) _) (before_root (Misc.noted s h m) e a d)
p_note {s = s} h (inside {ns = ns} n e c g d p) = subst (λ x. Pending (n ∷ ns) false (open_angle ∷ x)) (append_assoc s (content_bytes c) _) (inside n e (Content.noted s h c) g d p)
p_note h odd = odd

p_order : {ns : List (List ℕ)} {o : Bool} {bs s : List ℕ} → Instruction s → Pending ns o bs → Pending ns o (open_angle ∷ (s ++ bs))
p_order {s = s} h (behind_root m) = behind_root (Misc.ordered s h m)
p_order {s = s} h (before_root m e a d) = subst (λ x. Pending [] false (open_angle ∷ x)) (append_assoc s (misc_bytes m) _) (before_root (Misc.ordered s h m) e a d)
p_order {s = s} h (inside {ns = ns} n e c g d p) = subst (λ x. Pending (n ∷ ns) false (open_angle ∷ x)) (append_assoc s (content_bytes c) _) (inside n e (Content.ordered s h c) g d p)
p_order h odd = odd

-- an element before what comes behind it
p_root : {bs : List ℕ} (e : Element) → element_depth e ≤ most_open → Pending [] true bs → Pending [] false (element_bytes e ++ bs)
p_root e d (behind_root m) = before_root Misc.nothing e m d

p_child : {n : List ℕ} {ns : List (List ℕ)} {bs : List ℕ} (e : Element) → element_depth e + length (n ∷ ns) ≤ most_open → Pending (n ∷ ns) false bs → Pending (n ∷ ns) false (element_bytes e ++ bs)
p_child e d (inside {ns = ns} n x c g d' p) = subst (Pending (n ∷ ns) false) (append_assoc (element_bytes e) (content_bytes c) _) (inside n x (child e c) g (omega arith) p)

p_element : (ns : List (List ℕ)) {bs : List ℕ} (e : Element) → element_depth e + length ns ≤ most_open → Pending ns (is_empty ns) bs → Pending ns false (element_bytes e ++ bs)
p_element [] e d p = p_root e (omega arith) p
p_element (n ∷ ns) e d p = p_child e d p

p_start : {ns : List (List ℕ)} {bs n s : List ℕ} → StartTag n opening s → length ns < most_open → Pending (n ∷ ns) false bs → Pending ns false (open_angle ∷ (s ++ bs))
p_start {ns} {s = s} h l (inside {bs = bs} n e c g d p) =
    subst (λ x. Pending ns false (open_angle ∷ x)) flat (p_element ns (filled n s h c e g) (omega arith) p)
  where
    flat : (s ++ (content_bytes c ++ (open_angle ∷ e))) ++ bs ≡ s ++ (content_bytes c ++ (open_angle ∷ (e ++ bs)))
    flat = simp append_assoc

-- the same by where a reading stands; behind a `<`, what has been read of the markup comes first
abbrev Comes : Status → List ℕ → Type 0
Comes (between st) bs = Pending st.names st.over bs
Comes (behind st p s acc) bs = final (on at_open) acc ≡ on s → Pending st.names st.over (open_angle ∷ (acc ++ bs))
Comes (stopped f) bs = ⊥

no_closing : {n s : List ℕ} → StartTag n closing s → ⊥
no_closing (start_tag n a w z) = elim z [ ]

no_comment : {n s : List ℕ} → StartTag n comment s → ⊥
no_comment (start_tag n a w z) = elim z [ ]

no_instruction : {n s : List ℕ} → StartTag n instruction s → ⊥
no_instruction (start_tag n a w z) = elim z [ ]

final_snoc : (v : Move) (xs : List ℕ) (b : ℕ) → final v (xs ++ b ∷ []) ≡ next (final v xs) b
final_snoc v [] b = refl
final_snoc v (x ∷ xs) b = final_snoc (next v x) xs b

room : (ns : List (List ℕ)) → leb most_open (length ns) ≡ false → 1 + length ns ≤ most_open
room ns e = omega (arith, leb-false _ _ e)

module _ (voc : List (List ℕ)) where
  -- markup that was acted on, and not refused
  opens : (ns : List (List ℕ)) (o : Bool) (p : ℕ) {n xs : List ℕ} → StartTag n opening xs → (r : List ℕ) → Comes (acted voc (with ns o) p opening n).next r → Pending ns o (open_angle ∷ (xs ++ r))
  opens ns true p h r = λ z. absurd z
  opens ns false p {n = n} {xs = xs} h r =
      cond_both (leb most_open (length ns)) _ _ (λ (x : Step). Comes x.next r → Pending ns false (open_angle ∷ (xs ++ r))) (λ _ z. absurd z) (λ e z. p_start h (leb-false _ _ e) z)

  empties : (ns : List (List ℕ)) (o : Bool) (p : ℕ) {n xs : List ℕ} → StartTag n empty xs → (r : List ℕ) → Comes (acted voc (with ns o) p empty n).next r → Pending ns o (open_angle ∷ (xs ++ r))
  empties ns true p h r = λ z. absurd z
  empties ns false p {n = n} {xs = xs} h r =
      cond_both (leb most_open (length ns)) _ _ (λ (x : Step). Comes x.next r → Pending ns false (open_angle ∷ (xs ++ r))) (λ _ z. absurd z)
      (λ e z. p_element ns (emptied n xs h) (room ns e) z)

  closes : (ns : List (List ℕ)) (o : Bool) (p : ℕ) {n xs : List ℕ} → EndTag n xs → (r : List ℕ) → Comes (acted voc (with ns o) p closing n).next r → Pending ns o (open_angle ∷ (xs ++ r))
  closes [] o p h r = λ z. absurd z
  closes (m ∷ ms) true p h r = λ z. odd
  closes (m ∷ ms) false p {n = n} {xs = xs} h r =
      cond_both (bytes_eq m n) _ _ (λ (x : Step). Comes x.next r → Pending (m ∷ ms) false (open_angle ∷ (xs ++ r)))
      (λ e z. subst (λ x. Pending (x ∷ ms) false (open_angle ∷ (xs ++ r))) (sym ((bytes_eq-Decides m n).0 e)) (inside n xs Content.nothing h (omega arith) z))
      (λ _ z. absurd z)

  acts : (st : Stand) (p : ℕ) {k : Kind} {n xs : List ℕ} → Markup k n xs → (r : List ℕ) → Comes (acted voc st p k n).next r → Pending st.names st.over (open_angle ∷ (xs ++ r))
  acts st p {k = opening} (starts h) r = opens st.names st.over p h r
  acts st p {k = empty} (starts h) r = empties st.names st.over p h r
  acts st p {k = closing} (starts h) r = absurd (no_closing h)
  acts st p {k = closing} (ends h) r = closes st.names st.over p h r
  acts st p {k = comment} (starts h) r = absurd (no_comment h)
  acts st p {k = comment} (remarks h) r = p_note h
  acts st p {k = instruction} (starts h) r = absurd (no_instruction h)
  acts st p {k = instruction} (orders h) r = p_order h

  -- one more byte of markup, xs with it
  turns : (st : Stand) (p n : ℕ) (xs bs : List ℕ) (v : Move) → final (on at_open) xs ≡ v → Comes (moved voc st p n xs v).next bs → Pending st.names st.over (open_angle ∷ (xs ++ bs))
  turns st p n xs bs (on s) e c = c e
  turns st p n xs bs (ended k) e c =
      let f = accepted k xs e in
      acts st p f.is bs (subst (λ x. Comes (acted voc st p k x).next bs) (names f.is) c)
  turns st p n xs bs misplaced e c = absurd c
  turns st p n xs bs misfit e c = absurd c

  -- one more byte of text
  texts : (ns : List (List ℕ)) (o : Bool) (n b : ℕ) (bs : List ℕ) → eqb b open_angle ≡ false → Comes (texted (with ns o) n b).next bs → Pending ns o (b ∷ bs)
  texts [] o n b bs h = cond_both (white b) _ _ (λ (x : Step). Comes x.next bs → Pending [] o (b ∷ bs)) (λ e c. p_blank b e c) (λ _ z. absurd z)
  texts (m ∷ ms) o n b bs h = p_byte b h

  at_end : (ns : List (List ℕ)) (o : Bool) (f : Fault) → cond o closed (faulted f) ≡ closed → Pending ns o []
  at_end [] true f h = behind_root Misc.nothing
  at_end (n ∷ ns) true f h = odd
  at_end ns false f h = absurd cc

  comes : (bs : List ℕ) (s : Status) (n : ℕ) → ending_from voc s n bs ≡ closed → Comes s bs
  comes [] (between st) n h = at_end st.names st.over _ h
  comes [] (behind st p s acc) n h = absurd cc
  comes [] (stopped f) n h = absurd cc
  comes (b ∷ bs) (between st) n h =
      cond_both (eqb b open_angle) _ (texted st n b) (λ (x : Step). Comes x.next bs → Pending st.names st.over (b ∷ bs))
      (λ e c. subst (λ x. Pending st.names st.over (x ∷ bs)) (sym (eqb-true b open_angle e)) (c refl))
      (λ e c. texts st.names st.over n b bs e c)
      (comes bs (step voc (between st) n b).next (n + 1) h)
  comes (b ∷ bs) (behind st p s acc) n h = λ e.
      subst (λ x. Pending st.names st.over (open_angle ∷ x)) (append_assoc acc (b ∷ []) bs)
      (turns st p n (acc ++ b ∷ []) bs (next (on s) b) (final_snoc (on at_open) acc b ∙ ap (λ v. next v b) e) (comes bs (step voc (behind st p s acc) n b).next (n + 1) h))
  comes (b ∷ bs) (stopped f) n h = comes bs (stopped f) (n + 1) h

pub only_documents : (voc : List (List ℕ)) (m : List ℕ) → ending_from voc beginning 0 m ≡ closed → (d : Document) × (document_bytes d ≡ m) × (element_depth d.root ≤ most_open)
only_documents voc m h = documented (comes voc m beginning 0 h)
  where
    documented : {bs : List ℕ} → Pending [] false bs → (d : Document) × (document_bytes d ≡ bs) × (element_depth d.root ≤ most_open)
    documented (before_root m e a d) = (record { before = m; root = e; after = a }, refl, d)
