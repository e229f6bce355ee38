-- Reading a recorded message gives it back. Assumes nothing.
use Rattle.std.proofs.Common.{◌≡◌, ℕ, suc, pred, ◌+◌, ◌-◌, ◌<◌, ◌≤◌, Bool, true, false, cond, eqb, ltb, List, [], ◌∷◌, length, take, Ok, Err, sym, refl, ap, ◌∙◌, inl, inr, arith, le-ltb, eq-eqb, ne_eqb}
use borrow.Author.Tests.{lt-leb}
use Rattle.std.proofs.lemmas.Bool.{cond-true, cond-false, cases_eq}
use Rattle.vocabulary.specs.declared.faults.Fault.{Fault}
use Rattle.vocabulary.specs.Limits.{most_names, most_open}
use Rattle.message.specs.declared.events.Event.{Event}
use Rattle.message.specs.declared.events.Event.TheVariants.{Start, End}
use Rattle.message.specs.Sources.{Ending, closed, faulted, Nested, Coded, depth, Wellformed}
use Rattle.recording.specs.Words.{most_words, Said, said, depth_after, over_after, events_on, ending_on, events_from, ending_from, word_events, word_ending}
use Rattle.recording.specs.Laws.{Tells, tells}
use Rattle.recording.specs.Replays.{recorded, placed, Faithful}

says_start : (p d : ℕ) (o : Bool) (c : ℕ) → o ≡ false → d < most_open → c ≤ most_names → said p d o (c + 1) ≡ Ok (Start c p)
says_start p d o c e h k =
    let g = le-ltb 513 (c + 1) (omega arith) in
    let z = ne_eqb (c + 1) 0 (λ y. omega arith) in
    let f = lt-leb 32 d h in
    let u : (c + 1) - 1 ≡ c = omega arith in
    cond-false _ _ _ g ∙ cond-false _ _ _ z ∙ cond-false _ _ _ e ∙ cond-false _ _ _ f ∙ ap (λ x. Ok (Start x p)) u

says_end : (p d : ℕ) (o : Bool) → 0 < d → said p d o 0 ≡ Ok (End p)
says_end p d o h = cond-false _ _ _ (ne_eqb d 0 (λ y. omega arith))

-- the words from the place p on tell the events, and close
abbrev Read : ℕ → ℕ → Bool → List Event → Type 0
Read p d o es = (events_from p d o (recorded es) ≡ placed p es) × (ending_from p d o (recorded es) ≡ closed)

module _ (p d : ℕ) (o : Bool) (es : List Event) where
  read_start : (c q : ℕ) → o ≡ false → d < most_open → c ≤ most_names → Read (p + 1) (d + 1) o es → Read p d o (Start c q ∷ es)
  read_start c q e h k r =
      let s = says_start p d o c e h k in (
        ap (λ x. events_on x (λ y. events_from (p + 1) (depth_after d y) (over_after d o y) (recorded es))) s ∙ ap (λ x. Start c p ∷ x) r.0,
        ap (λ x. ending_on x (λ y. ending_from (p + 1) (depth_after d y) (over_after d o y) (recorded es))) s ∙ r.1,
      )

  read_end : (q : ℕ) → 0 < d → Read (p + 1) (pred d) (eqb d 1) es → Read p d o (End q ∷ es)
  read_end q h r =
      let s = says_end p d o h in (
        ap (λ x. events_on x (λ y. events_from (p + 1) (depth_after d y) (over_after d o y) (recorded es))) s ∙ ap (λ x. End p ∷ x) r.0,
        ap (λ x. ending_on x (λ y. ending_from (p + 1) (depth_after d y) (over_after d o y) (recorded es))) s ∙ r.1,
      )

-- the last open element
last_open : (d : ℕ) → 0 < d → eqb d 1 ≡ eqb (pred d) 0
last_open d h =
    elim (cases_eq d 1) [
      | inl e ↦ eq-eqb d 1 e ∙ sym (eq-eqb (pred d) 0 (omega arith))
      | inr n ↦ ne_eqb d 1 n ∙ sym (ne_eqb (pred d) 0 (λ y. n (omega arith)))
    ]

-- inside the root
inside : (p d : ℕ) (o : Bool) (es : List Event) → o ≡ eqb d 0 → depth d es ≡ 0 → ((k : ℕ) → k < length es → 0 < depth d (take k es)) → Nested d es → Coded es → Read p d o es
inside p d o [] e z a n c = (refl, cond-true _ _ _ (e ∙ eq-eqb d 0 z))
inside p d o (Start c q ∷ es) e z a n k =
    let h = a 0 (omega arith) in
    read_start p d o es c q (e ∙ ne_eqb d 0 (λ y. omega arith)) n.0 k.0
    (inside (p + 1) (d + 1) o es (e ∙ ne_eqb d 0 (λ y. omega arith) ∙ sym (ne_eqb (d + 1) 0 (λ y. omega arith))) z (λ k l. a (suc k) (omega arith)) n.1 k.1)
inside p d o (End q ∷ es) e z a n k =
    read_end p d o es q n.0 (inside (p + 1) (pred d) (eqb d 1) es (last_open d n.0) z (λ k l. a (suc k) (omega arith)) n.1 k)

long_recorded : (es : List Event) → length (recorded es) ≡ length es
long_recorded [] = refl
long_recorded (Start c p ∷ es) = ap suc (long_recorded es)
long_recorded (End p ∷ es) = ap suc (long_recorded es)

whole : (es : List Event) → Wellformed es closed → Read 1 0 false es
whole [] w = absurd (omega (arith, (w.whole refl).some))
whole (Start c q ∷ es) w =
    read_start 1 0 false es c q refl w.nested.0 w.coded.0
    (inside 2 1 false es refl (w.whole refl).shut (λ k l. (w.whole refl).inside (suc k) (omega arith) (omega arith)) w.nested.1 w.coded.1)
whole (End q ∷ es) w = absurd (omega (arith, w.nested.0))

replays : (es : List Event) → Wellformed es closed → (word_events (recorded es) ≡ placed 1 es) × (word_ending (recorded es) ≡ closed)
replays es w =
    let f = w.few in
    let n = long_recorded es in
    let b = le-ltb most_words (length (recorded es)) (omega arith) in
    let r = whole es w in
    (cond-false _ _ _ b ∙ r.0, cond-false _ _ _ b ∙ r.1)

exact_by : (d : ℕ) (o : Bool) (w : ℕ) (ws : List ℕ) (x : Said) (f : Event → List Event) (g : Event → Ending) → ((e : Event) → x ≡ Ok e → Tells d o w e) → ((e : Event) → g e ≡ closed → recorded (f e) ≡ ws) → ending_on x g ≡ closed → recorded (events_on x f) ≡ w ∷ ws
exact_by d o w ws (Ok (Start c p)) f g t ih h = let e = (t (Start c p) refl).3 in let r = ih (Start c p) h in cc
exact_by d o w ws (Ok (End p)) f g t ih h = let e = (t (End p) refl).1 in let r = ih (End p) h in cc
exact_by d o w ws (Err q) f g t ih h = let z : ◌≡◌ {A = ℕ} 0 1 = cc in absurd (omega arith)

exact_from : (p d : ℕ) (o : Bool) (ws : List ℕ) → ending_from p d o ws ≡ closed → recorded (events_from p d o ws) ≡ ws
exact_from p d o [] h = refl
exact_from p d o (w ∷ ws) h =
    exact_by d o w ws (said p d o w) _ _ (tells p d o w) (λ e k. exact_from (p + 1) (depth_after d e) (over_after d o e) ws k) h

sized : (b : Bool) (es : List Event) (e : Ending) (f : Fault) (ws : List ℕ) → (e ≡ closed → recorded es ≡ ws) → cond b (faulted f) e ≡ closed → recorded (cond b [] es) ≡ ws
sized true es e f ws r h = let z : ◌≡◌ {A = ℕ} 0 1 = cc in absurd (omega arith)
sized false es e f ws r h = r h

pub faithful : Faithful
faithful = record { replays = replays; exact = λ ws h. sized (ltb most_words (length ws)) _ _ _ ws (exact_from 1 0 false ws) h }
