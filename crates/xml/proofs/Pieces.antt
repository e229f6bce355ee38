-- What markup comes to at each of the cases that the code tells apart. Assumes nothing.
use Rattle.std.proofs.Common.{◌≡◌, ℕ, ◌+◌, ◌-◌, ◌≤◌, Bool, true, false, List, [], ◌∷◌, length, get_or, take, drop, Some, None, Ok, Err, sym, refl, ap, ◌∙◌, subst, arith, length-drop}
use Rattle.std.proofs.lemmas.List.{drop-drop, take_rest}
use Rattle.std.proofs.lemmas.Bool.{cond-true, cond-false, eq-eqb, ne_eqb}
use Rattle.vocabulary.specs.declared.faults.Question.TheVariants.{NoMarkup, MarkupNotEnded}
use Rattle.vocabulary.specs.Faults.{fault}
use Rattle.markup.specs.Bytes.{name_start}
use Rattle.markup.specs.Grammar.{Kind, comment, instruction}
use Rattle.markup.specs.Tags.{State, at_bang, in_remark, in_order, Scan, cut_short, ends, begins_none, later, scan_by, scan_from}
use Rattle.markup.specs.Runs.{shifted, first_from, found_by, mark_bytes}
use Rattle.markup.proofs.Scanning.{remark_scan, order_scan, later_shifted, shifted_twice}
use Rattle.markup.proofs.Bounds.{Reaches, reaches}
use Rattle.xml.specs.declared.items.Piece.TheVariants.{Start}
use Rattle.markup.specs.declared.texts.Mark.{Mark}
use Rattle.markup.specs.declared.texts.Mark.TheVariants.{Comment, Instruction}
use Rattle.xml.specs.Items.{begun, piece_by, piece_of, text_of, item_of}

-- what its mark ends
abbrev pub kind_at : Mark → Kind
kind_at Comment = comment
kind_at Instruction = instruction

mark_scan : (k : Mark) (s : List ℕ) → scan_from (begun k) s ≡ found_by (kind_at k) (length (mark_bytes k)) (first_from (mark_bytes k) 0 s)
mark_scan Comment s = remark_scan s
mark_scan Instruction s = order_scan s

-- a mark that is found, and none
pub mark_found : (k : Mark) (s : List ℕ) (n : ℕ) → Some n ≡ first_from (mark_bytes k) 0 s → (scan_from (begun k) s ≡ ends (kind_at k) (n + length (mark_bytes k))) × (n + length (mark_bytes k) ≤ length s)
mark_found k s n h =
    let e = mark_scan k s ∙ sym (ap (found_by (kind_at k) (length (mark_bytes k))) h) in
    (e, (subst (Reaches (length s)) e (reaches (begun k) s)).1)

pub mark_none : (k : Mark) (s : List ℕ) → None ≡ first_from (mark_bytes k) 0 s → scan_from (begun k) s ≡ cut_short
mark_none k s h = mark_scan k s ∙ sym (ap (found_by (kind_at k) (length (mark_bytes k))) h)

abbrev pub past : List ℕ → ℕ → List ℕ
past s i = take (length s - i) (drop i s)

pub ahead : (m : List ℕ) (n k : ℕ) → drop k (past m n) ≡ drop (n + k) m
ahead m n k = ap (drop k) (take_rest m n) ∙ drop-drop k n m

pub past_length : (m : List ℕ) (n : ℕ) → length (past m n) ≡ length m - n
past_length m n = ap length (take_rest m n) ∙ length-drop n m

-- what a tag that is read from there on reaches
pub past_reaches : (m : List ℕ) (n : ℕ) (s : State) (x : Scan) → x ≡ scan_from s (past m n) → Reaches (length m - n) x
past_reaches m n s x e = subst (λ k. Reaches k x) (past_length m n) (subst (Reaches (length (past m n))) (sym e) (reaches s (past m n)))

-- `--` behind `<!`
pub two_dashes_lem : (s : List ℕ) → 2 ≤ length s → get_or s 0 0 ≡ 45 → get_or s 1 0 ≡ 45 → scan_from at_bang s ≡ shifted 2 (scan_from in_remark (drop 2 s))
two_dashes_lem [] h e g = absurd (omega arith)
two_dashes_lem (a ∷ []) h e g = absurd (omega arith)
two_dashes_lem (a ∷ b ∷ t) h e g =
    (λ i. scan_from at_bang (e i ∷ g i ∷ t))
    ∙ later_shifted _ ∙ ap (shifted 1) (later_shifted _) ∙ shifted_twice 1 1 _

-- the text ends behind `<!` or `<!-`
pub bang_short : (s : List ℕ) → length s ≡ 0 → scan_from at_bang s ≡ cut_short
bang_short [] h = refl
bang_short (a ∷ s) h = absurd (omega arith)

pub dash_short : (s : List ℕ) → length s ≡ 1 → get_or s 0 0 ≡ 45 → scan_from at_bang s ≡ cut_short
dash_short [] h e = refl
dash_short (a ∷ []) h e = ap (λ x. scan_from at_bang (x ∷ [])) e
dash_short (a ∷ b ∷ s) h e = absurd (omega arith)

-- another byte in the place of a dash
pub no_dash : (s : List ℕ) → 1 ≤ length s → (get_or s 0 0 ≡ 45 → ⊥) → scan_from at_bang s ≡ begins_none
no_dash [] h ne = absurd (omega arith)
no_dash (a ∷ s) h ne = ap (λ m. scan_by m (λ t. scan_from t s)) (cond-false _ _ _ (ne_eqb a 45 ne))

pub one_dash_lem : (s : List ℕ) → 2 ≤ length s → get_or s 0 0 ≡ 45 → (get_or s 1 0 ≡ 45 → ⊥) → scan_from at_bang s ≡ begins_none
one_dash_lem [] h e ne = absurd (omega arith)
one_dash_lem (a ∷ []) h e ne = absurd (omega arith)
one_dash_lem (a ∷ b ∷ s) h e ne = ap (λ x. scan_from at_bang (x ∷ b ∷ s)) e ∙ ap (λ m. later (scan_by m (λ t. scan_from t s))) (cond-false _ _ _ (ne_eqb b 45 ne))

-- `!` and `?` behind `<`
pub at_bang_lem : (p : ℕ) (s : List ℕ) → 1 ≤ length s → get_or s 0 0 ≡ 33 → piece_of p s ≡ piece_by p (shifted 1 (scan_from at_bang (drop 1 s)))
unfolding name_start
at_bang_lem p [] h e = absurd (omega arith)
at_bang_lem p (a ∷ s) h e =
    ap (λ x. piece_of p (x ∷ s)) e ∙ ap (piece_by p) (later_shifted (scan_from at_bang s))

pub at_ask : (p : ℕ) (s : List ℕ) → 1 ≤ length s → get_or s 0 0 ≡ 63 → piece_of p s ≡ piece_by p (shifted 1 (scan_from in_order (drop 1 s)))
unfolding name_start
at_ask p [] h e = absurd (omega arith)
at_ask p (a ∷ s) h e =
    ap (λ x. piece_of p (x ∷ s)) e ∙ ap (piece_by p) (later_shifted (scan_from in_order s))

-- a start tag, nothing, and a byte that begins nothing
pub at_start : (p : ℕ) (s : List ℕ) → (get_or s 0 0 ≡ 47 → ⊥) → name_start (get_or s 0 0) ≡ true → piece_of p s ≡ Ok Start
at_start p s ne h = cond-false _ _ _ (ne_eqb (get_or s 0 0) 47 ne) ∙ cond-true _ _ _ h

pub at_none : (p : ℕ) (s : List ℕ) → length s ≡ 0 → piece_of p s ≡ Err (fault MarkupNotEnded p)
unfolding name_start
at_none p [] h = refl
at_none p (a ∷ s) h = absurd (omega arith)

pub at_other : (p : ℕ) (s : List ℕ) → 1 ≤ length s → (get_or s 0 0 ≡ 47 → ⊥) → name_start (get_or s 0 0) ≡ false → (get_or s 0 0 ≡ 33 → ⊥) → (get_or s 0 0 ≡ 63 → ⊥) → piece_of p s ≡ Err (fault NoMarkup p)
at_other p [] h a b d e = absurd (omega arith)
at_other p (x ∷ s) h a b d e =
    cond-false _ _ _ (ne_eqb x 47 a)
    ∙ cond-false _ _ _ b
    ∙ ap (λ m. piece_by p (scan_by m (λ t. scan_from t s))) (cond-false _ _ _ b ∙ cond-false _ _ _ (ne_eqb x 47 a) ∙ cond-false _ _ _ (ne_eqb x 33 d) ∙ cond-false _ _ _ (ne_eqb x 63 e))
