-- What words tell from their beginning is well formed. Assumes nothing.
use Rattle.std.specs.Prelude.{◌≡◌, ℕ, zero, suc, pred, ◌+◌, ◌-◌, ◌<◌, ◌≤◌, Bool, true, false, cond, ◌⊎◌, List, [], ◌∷◌, length, take, Ok, Err, ◌==◌, ◌≢◌, nat_le, nat_lt, refl}
use Rattle.std.proofs.Common.{sym, ap, subst, inl, inr, arith, leb-false, ltb-false, true-eqb, false-eqb, eq-eqb}
use Rattle.vocabulary.specs.declared.faults.Fault.{Fault}
use Rattle.vocabulary.specs.Limits.{most_names, most_open}
use Rattle.message.specs.declared.events.Event.{Event}
use Rattle.message.specs.declared.events.Event.TheVariants.{Start, End}
use Rattle.message.specs.Sources.{Ending, closed, faulted, Nested, Coded, depth, Whole, Wellformed}
use Rattle.recording.specs.Words.{most_words, Said, said, depth_after, over_after, events_on, ending_on, events_from, ending_from, word_events, word_ending}

-- a test that refuses has not, and the event comes after it
refused : (b : Bool) (f : Fault) (x : Said) (e : Event) → cond b (Err f) x ≡ Ok e → (b ≡ false) × (x ≡ Ok e)
refused true f x e h = let z : ◌≡◌ {A = ℕ} 0 1 = cc in absurd (omega arith)
refused false f x e h = (refl, h)

either : (b : Bool) (x y : Said) (e : Event) → cond b x y ≡ Ok e → ((b ≡ true) × (x ≡ Ok e)) ⊎ ((b ≡ false) × (y ≡ Ok e))
either true x y e h = inl (refl, h)
either false x y e h = inr (refl, h)

same : (a b : Event) → ◌≡◌ {A = Said} (Ok a) (Ok b) → a ≡ b
same a b h = cc

-- what a word that tells the event is, and when it may stand
abbrev pub Tells : ℕ → Bool → ℕ → Event → Type 0
Tells d o w (Start c p) = (o ≡ false) × (d < most_open) × (c ≤ most_names) × (w ≡ c + 1)
Tells d o w (End p) = (0 < d) × (w ≡ 0)

pub tells : (p d : ℕ) (o : Bool) (w : ℕ) (e : Event) → said p d o w ≡ Ok e → Tells d o w e
tells p d o w e h =
    let g = refused (nat_lt (most_names + 1) w) _ _ e h in
    elim (either (w == 0) _ _ e g.1) [
      | inl z ↦
          let n = refused (d == 0) _ _ e z.1 in
          let m = false-eqb d 0 (sym n.0) in
          subst (Tells d o w) (same (End p) e n.1) (omega arith, true-eqb w 0 (sym z.0))
      | inr z ↦
          let a = refused o _ _ e z.1 in
          let f = refused (nat_le most_open d) _ _ e a.1 in
          let k = ltb-false 513 w g.0 in
          let l = false-eqb w 0 (sym z.0) in
          subst (Tells d o w) (same (Start (w - 1) p) e f.1) (a.0, leb-false 32 d f.0, omega arith, omega arith)
    ]

-- the event may come where d elements are open
abbrev pub Fitting : ℕ → Event → Type 0
Fitting d (Start c p) = d < most_open
Fitting d (End p) = 0 < d

fitting_by : (d : ℕ) (o : Bool) (w : ℕ) (e : Event) → Tells d o w e → Fitting d e
fitting_by d o w (Start c p) t = t.1
fitting_by d o w (End p) t = t.0

pub fitting : (p d : ℕ) (o : Bool) (w : ℕ) (e : Event) → Ok e ≡ said p d o w → Fitting d e
fitting p d o w e h = fitting_by d o w e (tells p d o w e (sym h))

-- at most an event a word
few_by : (x : Said) (f : Event → List Event) (n : ℕ) → ((e : Event) → length (f e) ≤ n) → length (events_on x f) ≤ n + 1
few_by (Ok e) f n h = let k = h e in omega arith
few_by (Err q) f n h = omega arith

few : (p d : ℕ) (o : Bool) (ws : List ℕ) → length (events_from p d o ws) ≤ length ws
few p d o [] = omega arith
few p d o (w ∷ ws) = let k = few_by (said p d o w) _ (length ws) (λ e. few (p + 1) (depth_after d e) (over_after d o e) ws) in omega arith

nested_by : (d : ℕ) (o : Bool) (w : ℕ) (x : Said) (f : Event → List Event) → ((e : Event) → x ≡ Ok e → Tells d o w e) → ((e : Event) → Nested (depth_after d e) (f e)) → Nested d (events_on x f)
nested_by d o w (Ok (Start c p)) f t ih = ((t (Start c p) refl).1, ih (Start c p))
nested_by d o w (Ok (End p)) f t ih = ((t (End p) refl).0, ih (End p))
nested_by d o w (Err q) f t ih = tt

nested : (p d : ℕ) (o : Bool) (ws : List ℕ) → Nested d (events_from p d o ws)
nested p d o [] = tt
nested p d o (w ∷ ws) = nested_by d o w (said p d o w) _ (tells p d o w) (λ e. nested (p + 1) (depth_after d e) (over_after d o e) ws)

coded_by : (d : ℕ) (o : Bool) (w : ℕ) (x : Said) (f : Event → List Event) → ((e : Event) → x ≡ Ok e → Tells d o w e) → ((e : Event) → Coded (f e)) → Coded (events_on x f)
coded_by d o w (Ok (Start c p)) f t ih = ((t (Start c p) refl).2, ih (Start c p))
coded_by d o w (Ok (End p)) f t ih = ih (End p)
coded_by d o w (Err q) f t ih = tt

coded : (p d : ℕ) (o : Bool) (ws : List ℕ) → Coded (events_from p d o ws)
coded p d o [] = tt
coded p d o (w ∷ ws) = coded_by d o w (said p d o w) _ (tells p d o w) (λ e. coded (p + 1) (depth_after d e) (over_after d o e) ws)

-- once the root has ended none is open
abbrev Tidy : ℕ → Bool → Type 0
Tidy d o = o ≡ true → d ≡ 0

tidy : (d : ℕ) (o : Bool) (w : ℕ) (e : Event) → Tells d o w e → Tidy (depth_after d e) (over_after d o e)
tidy d o w (Start c p) t h = let a = t.0 in let z : ◌≡◌ {A = ℕ} 0 1 = cc in absurd (omega arith)
tidy d o w (End p) t h = ap pred (true-eqb d 1 (sym h))

-- and nothing follows
over_by : (x : Said) (f : Event → List Event) → ((e : Event) → x ≢ Ok e) → events_on x f ≡ []
over_by (Ok e) f a = absurd (a e refl)
over_by (Err q) f a = refl

refuses : (d : ℕ) (o : Bool) (w : ℕ) (e : Event) → o ≡ true → d ≡ 0 → Tells d o w e → ⊥
refuses d o w (Start c p) h z t = let a = t.0 in let y : ◌≡◌ {A = Bool} true false = cc in let q : ◌≡◌ {A = ℕ} 0 1 = cc in omega arith
refuses d o w (End p) h z t = omega arith

nothing_after : (p d : ℕ) (o : Bool) (ws : List ℕ) → o ≡ true → d ≡ 0 → events_from p d o ws ≡ []
nothing_after p d o [] h z = refl
nothing_after p d o (w ∷ ws) h z = over_by (said p d o w) _ (λ e s. refuses d o w e h z (tells p d o w e s))

-- closed only with none open
shut_by : (d : ℕ) (x : Said) (f : Event → List Event) (g : Event → Ending) → ((e : Event) → x ≡ Ok e → g e ≡ closed → depth (depth_after d e) (f e) ≡ 0) → ending_on x g ≡ closed → depth d (events_on x f) ≡ 0
shut_by d (Ok (Start c p)) f g ih h = ih (Start c p) refl h
shut_by d (Ok (End p)) f g ih h = ih (End p) refl h
shut_by d (Err q) f g ih h = let z : ◌≡◌ {A = ℕ} 0 1 = cc in absurd (omega arith)

ended : (o : Bool) (e : Ending) → cond o closed e ≡ closed → (e ≢ closed) → o ≡ true
ended true e h n = refl
ended false e h n = absurd (n h)

shut : (p d : ℕ) (o : Bool) (ws : List ℕ) → Tidy d o → ending_from p d o ws ≡ closed → depth d (events_from p d o ws) ≡ 0
shut p d o [] t h = t (ended o _ h (λ b. let z : ◌≡◌ {A = ℕ} 0 1 = cc in omega arith))
shut p d o (w ∷ ws) t h =
    shut_by d (said p d o w) _ _ (λ e s k. shut (p + 1) (depth_after d e) (over_after d o e) ws (tidy d o w e (tells p d o w e s)) k) h

-- strictly inside one is open
end_by : (d : ℕ) (es : List Event) (k : ℕ) → (0 < d → 0 < depth d (take k es)) → (d ≡ 0 → es ≡ []) → k < length es → 0 < depth d (take k es)
end_by zero es k a z l = absurd (omega (arith, ap length (z refl)))
end_by (suc d) es k a z l = a (omega arith)

inside_by : (d : ℕ) (x : Said) (f : Event → List Event) → 0 < d → ((e : Event) → 0 < depth_after d e → (k : ℕ) → k < length (f e) → 0 < depth (depth_after d e) (take k (f e))) → ((e : Event) → depth_after d e ≡ 0 → f e ≡ []) → (k : ℕ) → k < length (events_on x f) → 0 < depth d (take k (events_on x f))
inside_by d (Ok e) f h ih z zero l = h
inside_by d (Ok (Start c p)) f h ih z (suc k) l = ih (Start c p) (omega arith) k (omega arith)
inside_by d (Ok (End p)) f h ih z (suc k) l = end_by (pred d) (f (End p)) k (λ h. ih (End p) h k (omega arith)) (z (End p)) (omega arith)
inside_by d (Err q) f h ih z k l = absurd (omega arith)

after : (p d : ℕ) (o : Bool) (ws : List ℕ) → 0 < d → (e : Event) → depth_after d e ≡ 0 → events_from p (depth_after d e) (over_after d o e) ws ≡ []
after p d o ws h (Start c q) z = absurd (omega arith)
after p d o ws h (End q) z = let y : pred d ≡ 0 = z in nothing_after p (pred d) (d == 1) ws (eq-eqb d 1 (omega arith)) z

inside : (p d : ℕ) (o : Bool) (ws : List ℕ) → 0 < d → (k : ℕ) → k < length (events_from p d o ws) → 0 < depth d (take k (events_from p d o ws))
inside p d o [] h k l = absurd (omega arith)
inside p d o (w ∷ ws) h k l =
    inside_by d (said p d o w) _ h (λ e h. inside (p + 1) (depth_after d e) (over_after d o e) ws h) (after (p + 1) d o ws h) k l

whole_by : (w : ℕ) (x : Said) (f : Event → List Event) (g : Event → Ending) → ((e : Event) → x ≡ Ok e → Tells 0 false w e) → ((c p k : ℕ) → k < length (f (Start c p)) → 0 < depth 1 (take k (f (Start c p)))) → ending_on x g ≡ closed → (0 < length (events_on x f)) × ((k : ℕ) → 0 < k → k < length (events_on x f) → 0 < depth 0 (take k (events_on x f)))
whole_by w (Ok (Start c p)) f g t ih h = (omega arith, later)
  where
    later : (k : ℕ) → 0 < k → k < length (events_on (Ok (Start c p)) f) → 0 < depth 0 (take k (events_on (Ok (Start c p)) f))
    later zero s l = absurd (omega arith)
    later (suc k) s l = ih c p k (omega arith)
whole_by w (Ok (End p)) f g t ih h = absurd (omega (arith, t (End p) refl))
whole_by w (Err q) f g t ih h = let z : ◌≡◌ {A = ℕ} 0 1 = cc in absurd (omega arith)

whole : (ws : List ℕ) → ending_from 1 0 false ws ≡ closed → Whole (events_from 1 0 false ws)
whole [] h = let z : ◌≡◌ {A = ℕ} 0 1 = cc in absurd (omega arith)
whole (w ∷ ws) h =
    let b = whole_by w (said 1 0 false w) (λ e. events_from 2 (depth_after 0 e) (over_after 0 false e) ws) (λ e. ending_from 2 (depth_after 0 e) (over_after 0 false e) ws) (tells 1 0 false w) (λ c p k l. inside 2 1 false ws (omega arith) k l) h in
    record { some = b.0; shut = shut 1 0 false (w ∷ ws) (λ _. refl) h; inside = b.1 }

sound_by : (b : Bool) (es : List Event) (e : Ending) (f : Fault) → (b ≡ false → Wellformed es e) → Wellformed (cond b [] es) (cond b (faulted f) e)
sound_by true es e f h = record { few = omega arith; nested = tt; coded = tt; whole = λ k. let z : ◌≡◌ {A = ℕ} 0 1 = cc in absurd (omega arith) }
sound_by false es e f h = h refl

pub sound : (ws : List ℕ) → Wellformed (word_events ws) (word_ending ws)
sound ws =
    sound_by (nat_lt most_words (length ws)) _ _ _ (λ b.
    let l = ltb-false 1048576 (length ws) b in
    let n = few 1 0 false ws in
    record { few = omega arith; nested = nested 1 0 false ws; coded = coded 1 0 false ws; whole = whole ws })
