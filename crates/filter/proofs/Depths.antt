-- The rule of depths, step by step. Assumes nothing.
use Rattle.std.proofs.Common.{◌≡◌, ℕ, zero, suc, ◌<◌, ◌≤◌, Bool, true, List, [], ◌∷◌, ◌++◌, length, get_or, take, sym, refl, ◌∙◌, subst, ⊎_elim, add-one, arith, length-take-le, get_or-take, take-suc}
use mathlib.Core.Logic.{∥∥₁_elim, ∥∥₁_map, ∥∥₁_prop}
use mathlib.Core.Bool.{Bool-set}
use native.Mathlib.Nat.{ℕ_set}
use mathlib.Core.HLevel.{Unit-prop, ×_prop}
use lib.Seq.{take-length, get_or-append_seam}
use Rattle.std.proofs.lemmas.List.{length_push, get_or_append_left}
use Rattle.std.proofs.lemmas.Bool.{eqb-true, eq-eqb, and_parts, and_from, or_cases, or_left, or_right, false≢true, cases_lt}
use Rattle.filter.specs.declared.steps.Axis.{Axis}
use Rattle.filter.specs.declared.steps.Axis.TheVariants.{Child, Descendant}
use Rattle.filter.specs.declared.steps.Test.{Test}
use Rattle.filter.specs.declared.steps.Test.TheVariants.{Any, Code}
use Rattle.filter.specs.declared.steps.Step.{Step}
use Rattle.filter.specs.Embedding.{Fits, Deeper, code_at, Placed, Embeds, fits, any_to, linked, blank, reaches, embeds, Rule, Above, Before, OneMoreStep}

-- the steps embed at the element of a front of the path; the empty list of steps only at the front that is empty
abbrev Behind : Axis → List Step → List ℕ → Type 0
Behind Child ss path = Embeds ss path
Behind Descendant ss path = ∥ ((e : ℕ) × (e ≤ length path) × Embeds ss (take e path)) ∥₁

abbrev OneStep : Type 0
OneStep = (ss : List Step) (s : Step) (path : List ℕ) (c : ℕ) →
    (Embeds (ss ++ s ∷ []) (path ++ c ∷ []) → Fits s.test c × Behind s.axis ss path)
    × (Fits s.test c × Behind s.axis ss path → Embeds (ss ++ s ∷ []) (path ++ c ∷ []))

-- the steps lead from depth a to depth e
abbrev pub Reach : ℕ → List Step → List ℕ → ℕ → Type 0
Reach a [] path e = a ≡ e
Reach a (s ∷ ss) path e = (d : ℕ) × Deeper s.axis a d × (d ≤ length path) × Fits s.test (code_at path d) × Reach d ss path e

to_reach : (a : ℕ) (ss : List Step) (path ds : List ℕ) → Placed a ss path ds → Reach a ss path (length path)
to_reach a [] path [] p = p
to_reach a [] path (d ∷ ds) p = absurd p
to_reach a (s ∷ ss) path [] p = absurd p
to_reach a (s ∷ ss) path (d ∷ ds) p = (d, p.0, p.1, p.2, to_reach d ss path ds p.3)

from_reach : (a : ℕ) (ss : List Step) (path : List ℕ) → Reach a ss path (length path) → (ds : List ℕ) × Placed a ss path ds
from_reach a [] path r = ([], r)
from_reach a (s ∷ ss) path r = let t = from_reach r.0 ss path r.4 in (r.0 ∷ t.0, (r.1, r.2, r.3, t.1))

-- one step off the end, and on again
pub unsnoc : (a : ℕ) (ss : List Step) (s : Step) (path : List ℕ) (e : ℕ) → Reach a (ss ++ s ∷ []) path e → (m : ℕ) × Reach a ss path m × Deeper s.axis m e × (e ≤ length path) × Fits s.test (code_at path e)
unsnoc a [] s path e r =
    let q = r.4 in
    (a, refl, subst (λ d. Deeper s.axis a d) q r.1, subst (λ d. d ≤ length path) q r.2, subst (λ d. Fits s.test (code_at path d)) q r.3)
unsnoc a (t ∷ ss) s path e r =
    let u = unsnoc r.0 ss s path e r.4 in
    (u.0, (r.0, r.1, r.2, r.3, u.1), u.2, u.3, u.4)

pub snoc : (a : ℕ) (ss : List Step) (s : Step) (path : List ℕ) (m e : ℕ) → Reach a ss path m → Deeper s.axis m e → e ≤ length path → Fits s.test (code_at path e) → Reach a (ss ++ s ∷ []) path e
snoc a [] s path m e r p l f = (e, subst (λ d. Deeper s.axis d e) (sym r) p, l, f, refl)
snoc a (t ∷ ss) s path m e r p l f = (r.0, r.1, r.2, r.3, snoc r.0 ss s path m e r.4 p l f)

pub deeper_lt : (x : Axis) (a d : ℕ) → Deeper x a d → a < d
deeper_lt Child a d h = omega arith
deeper_lt Descendant a d h = h

reach_le : (a : ℕ) (ss : List Step) (path : List ℕ) (e : ℕ) → Reach a ss path e → a ≤ e
reach_le a [] path e r = omega arith
reach_le a (s ∷ ss) path e r =
    let p = deeper_lt s.axis a r.0 r.1 in
    let q = reach_le r.0 ss path e r.4 in
    omega arith

-- only the front up to the last depth counts
pub local : (p q : List ℕ) (a : ℕ) (ss : List Step) (m : ℕ) → ((d : ℕ) → d ≤ m → code_at p d ≡ code_at q d) → m ≤ length q → Reach a ss p m → Reach a ss q m
local p q a [] m same l r = r
local p q a (s ∷ ss) m same l r =
    let h = reach_le r.0 ss p m r.4 in
    (r.0, r.1, omega arith, subst (λ c. Fits s.test c) (same r.0 h) r.3, local p q r.0 ss m same l r.4)

-- the table
any_sound : (f : ℕ → Bool) (e : ℕ) → any_to f e ≡ true → (m : ℕ) × (m ≤ e) × (f m ≡ true)
any_sound f zero h = (0, omega arith, h)
any_sound f (suc e) h = ⊎_elim (λ x. (suc e, omega arith, x)) (λ x. let t = any_sound f e x in (t.0, omega arith, t.2)) (or_cases (f (suc e)) (any_to f e) h)

pub any_complete : (f : ℕ → Bool) (m e : ℕ) → m ≤ e → f m ≡ true → any_to f e ≡ true
any_complete f m zero l h = let z : m ≡ 0 = omega arith in subst (λ x. f x ≡ true) z h
any_complete f m (suc e) l h =
    ⊎_elim
    (λ t. or_right (f (suc e)) (any_to f e) (any_complete f m e (omega arith) h))
    (λ t. let z : m ≡ suc e = omega arith in or_left (f (suc e)) (any_to f e) (subst (λ x. f x ≡ true) z h))
    (cases_lt m (suc e))

link_sound : (x : Axis) (f : ℕ → Bool) (e : ℕ) → linked x f e ≡ true → (m : ℕ) × (m ≤ e) × (f m ≡ true) × Deeper x m (suc e)
link_sound Child f e h = (e, omega arith, h, omega arith)
link_sound Descendant f e h = let t = any_sound f e h in (t.0, t.1, t.2, omega arith)

link_complete : (x : Axis) (f : ℕ → Bool) (m e : ℕ) → Deeper x m (suc e) → f m ≡ true → linked x f e ≡ true
link_complete Child f m e p h = let z : m ≡ e = omega arith in subst (λ x. f x ≡ true) z h
link_complete Descendant f m e p h = any_complete f m e (omega arith) h

pub fits_sound : (t : Test) (c : ℕ) → fits t c ≡ true → Fits t c
fits_sound Any c h = tt
fits_sound (Code x) c h = eqb-true c x h

pub fits_complete : (t : Test) (c : ℕ) → Fits t c → fits t c ≡ true
fits_complete Any c h = refl
fits_complete (Code x) c h = eq-eqb c x h

sound : (ss : List Step) (path : List ℕ) (k e : ℕ) → k ≤ length ss → e ≤ length path → reaches ss path k e ≡ true → Reach 0 (take k ss) path e
sound ss path zero e kl el h = sym (eqb-true e 0 h)
sound ss path (suc k) zero kl el h = absurd (false≢true h)
sound ss path (suc k) (suc e) kl el h =
    let s = get_or ss k blank in
    let p = and_parts (fits s.test (get_or path e 0)) (linked s.axis (reaches ss path k) e) h in
    let t = link_sound s.axis (reaches ss path k) e p.1 in
    let r = sound ss path k t.0 (omega arith) (omega arith) t.2 in
    subst (λ l. Reach 0 l path (suc e)) (sym (take-suc ss k blank kl)) (snoc 0 (take k ss) s path t.0 (suc e) r t.3 el (fits_sound s.test (get_or path e 0) p.0))

complete : (ss : List Step) (path : List ℕ) (k e : ℕ) → k ≤ length ss → Reach 0 (take k ss) path e → reaches ss path k e ≡ true
complete ss path zero e kl r = eq-eqb e 0 (sym r)
complete ss path (suc k) zero kl r =
    let s = get_or ss k blank in
    let u = unsnoc 0 (take k ss) s path 0 (subst (λ l. Reach 0 l path 0) (take-suc ss k blank kl) r) in
    let b = deeper_lt s.axis u.0 0 u.2 in
    absurd (omega arith)
complete ss path (suc k) (suc e) kl r =
    let s = get_or ss k blank in
    let u = unsnoc 0 (take k ss) s path (suc e) (subst (λ l. Reach 0 l path (suc e)) (take-suc ss k blank kl) r) in
    and_from (fits s.test (get_or path e 0)) (linked s.axis (reaches ss path k) e)
    (fits_complete s.test (get_or path e 0) u.4)
    (link_complete s.axis (reaches ss path k) u.0 e u.2 (complete ss path k u.0 (omega arith) u.1))

-- Embeds is Reach
pub embeds_reach : (ss : List Step) (path : List ℕ) → embeds ss path ≡ true → Reach 0 ss path (length path)
embeds_reach ss path h = subst (λ l. Reach 0 l path (length path)) (take-length ss) (sound ss path (length ss) (length path) (omega arith) (omega arith) h)

pub reach_embeds : (ss : List Step) (path : List ℕ) → Reach 0 ss path (length path) → embeds ss path ≡ true
reach_embeds ss path r = complete ss path (length ss) (length path) (omega arith) (subst (λ l. Reach 0 l path (length path)) (sym (take-length ss)) r)

pub rule : Rule
rule ss path = (
  λ h. ∣ from_reach 0 ss path (embeds_reach ss path h) ∣₁,
  λ h. ∥∥₁_elim h (Bool-set (embeds ss path) true) (λ t. reach_embeds ss path (to_reach 0 ss path t.0 t.1)),
)

-- a front of the path in place of the path
code_take : (path : List ℕ) (m d : ℕ) → d ≤ m → code_at path d ≡ code_at (take m path) d
code_take path m zero h = refl
code_take path m (suc d) h = sym (get_or-take m path d 0 h)

code_push : (path : List ℕ) (c d : ℕ) → d ≤ length path → code_at (path ++ c ∷ []) d ≡ code_at path d
code_push path c zero h = refl
code_push path c (suc d) h = get_or_append_left path (c ∷ []) 0 d h

code_last : (path : List ℕ) (c : ℕ) → code_at (path ++ c ∷ []) (suc (length path)) ≡ c
code_last path c = get_or-append_seam path c [] 0

-- Reach up to a front, as Embeds at that front
pub front_embeds : (ss : List Step) (path : List ℕ) (m : ℕ) → m ≤ length path → Reach 0 ss path m → Embeds ss (take m path)
front_embeds ss path m l r =
    let e = length-take-le m path l in
    let q = local path (take m path) 0 ss m (λ d h. code_take path m d h) (omega arith) r in
    ∣ from_reach 0 ss (take m path) (subst (λ x. Reach 0 ss (take m path) x) (sym e) q) ∣₁

pub placed_front : (ss : List Step) (path ds : List ℕ) (m : ℕ) → m ≤ length path → Placed 0 ss (take m path) ds → Reach 0 ss path m
placed_front ss path ds m l p =
    let e = length-take-le m path l in
    let q = to_reach 0 ss (take m path) ds p in
    local (take m path) path 0 ss m (λ d h. sym (code_take path m d h)) l (subst (λ x. Reach 0 ss (take m path) x) e q)

push_len : (path : List ℕ) (c : ℕ) → length (path ++ c ∷ []) ≡ suc (length path)
push_len path c = length_push path c ∙ add-one (length path)

behind : (x : Axis) (ss : List Step) (path : List ℕ) (m : ℕ) → Reach 0 ss path m → Deeper x m (suc (length path)) → Behind x ss path
behind Child ss path m r p = let z : m ≡ length path = omega arith in ∣ from_reach 0 ss path (subst (λ x. Reach 0 ss path x) z r) ∣₁
behind Descendant ss path m r p = ∣ (m, omega arith, front_embeds ss path m (omega arith) r) ∣₁

unbehind : (x : Axis) (ss : List Step) (path : List ℕ) → Behind x ss path → ∥ ((m : ℕ) × Reach 0 ss path m × Deeper x m (suc (length path))) ∥₁
unbehind Child ss path b = ∥∥₁_map b (λ t. (length path, to_reach 0 ss path t.0 t.1, omega arith))
unbehind Descendant ss path b = ∥∥₁_elim b ∥∥₁_prop (λ t. ∥∥₁_map t.2 (λ u. (t.0, placed_front ss path u.0 t.0 t.1 u.1, omega arith)))

fits_prop : (t : Test) (c : ℕ) → IsProp (Fits t c)
fits_prop Any c = Unit-prop
fits_prop (Code x) c = ℕ_set c x

behind_prop : (x : Axis) (ss : List Step) (path : List ℕ) → IsProp (Behind x ss path)
behind_prop Child ss path = ∥∥₁_prop
behind_prop Descendant ss path = ∥∥₁_prop

one_step : OneStep
one_step ss s path c = (there, back)
  where
    there : Embeds (ss ++ s ∷ []) (path ++ c ∷ []) → Fits s.test c × Behind s.axis ss path
    there h =
        ∥∥₁_elim h (×_prop (fits_prop s.test c) (behind_prop s.axis ss path)) (λ t.
        let r = subst (λ x. Reach 0 (ss ++ s ∷ []) (path ++ c ∷ []) x) (push_len path c) (to_reach 0 (ss ++ s ∷ []) (path ++ c ∷ []) t.0 t.1) in
        let u = unsnoc 0 ss s (path ++ c ∷ []) (suc (length path)) r in
        let l = deeper_lt s.axis u.0 (suc (length path)) u.2 in
        let q = local (path ++ c ∷ []) path 0 ss u.0 (λ d h. code_push path c d (omega arith)) (omega arith) u.1 in
        (subst (λ x. Fits s.test x) (code_last path c) u.4, behind s.axis ss path u.0 q u.2))

    back : Fits s.test c × Behind s.axis ss path → Embeds (ss ++ s ∷ []) (path ++ c ∷ [])
    back h =
        ∥∥₁_map (unbehind s.axis ss path h.1) (λ t.
        let l = deeper_lt s.axis t.0 (suc (length path)) t.2 in
        let n = push_len path c in
        let q = local path (path ++ c ∷ []) 0 ss t.0 (λ d h. sym (code_push path c d (omega arith))) (omega arith) t.1 in
        let r = snoc 0 ss s (path ++ c ∷ []) t.0 (suc (length path)) q t.2 (omega arith) (subst (λ x. Fits s.test x) (sym (code_last path c)) h.0) in
        from_reach 0 (ss ++ s ∷ []) (path ++ c ∷ []) (subst (λ x. Reach 0 (ss ++ s ∷ []) (path ++ c ∷ []) x) (sym n) r))

-- with the empty list of steps apart
none_at_root : (t : Step) (ts : List Step) (path : List ℕ) (e : ℕ) → Embeds (t ∷ ts) (take e path) → 1 ≤ e
none_at_root t ts path zero h =
    ∥∥₁_elim h (λ a b. absurd (omega arith)) (λ u.
    let r = to_reach 0 (t ∷ ts) [] u.0 u.1 in
    let l = deeper_lt t.axis 0 r.0 r.1 in
    let m = r.2 in
    absurd (omega arith))
none_at_root t ts path (suc e) h = omega arith

to_above : (ss : List Step) (path : List ℕ) → Behind Descendant ss path → Above ss path
to_above [] path h = tt
to_above (t ∷ ts) path h = ∥∥₁_map h (λ u. (u.0, none_at_root t ts path u.0 u.2, u.1, u.2))

from_above : (ss : List Step) (path : List ℕ) → Above ss path → Behind Descendant ss path
from_above [] path h = ∣ (0, omega arith, ∣ ([], refl) ∣₁) ∣₁
from_above (t ∷ ts) path h = ∥∥₁_map h (λ u. (u.0, u.2, u.3))

to_before : (x : Axis) (ss : List Step) (path : List ℕ) → Behind x ss path → Before x ss path
to_before Child ss path h = h
to_before Descendant ss path h = to_above ss path h

from_before : (x : Axis) (ss : List Step) (path : List ℕ) → Before x ss path → Behind x ss path
from_before Child ss path h = h
from_before Descendant ss path h = from_above ss path h

pub one_more_step : OneMoreStep
one_more_step ss s path c = (
  λ h. let r = (one_step ss s path c).0 h in (r.0, to_before s.axis ss path r.1),
  λ h. (one_step ss s path c).1 (h.0, from_before s.axis ss path h.1),
)
