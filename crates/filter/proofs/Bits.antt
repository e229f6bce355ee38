-- Columns of bits, and how far a table looks. Assumes nothing.
use Rattle.std.proofs.Common.{◌≡◌, ℕ, zero, suc, ◌+◌, ◌-◌, ◌*◌, ◌/◌, ◌%◌, ◌^◌, ◌<◌, ◌≤◌, Bool, true, false, cond, not, ◌&&◌, ◌||◌, eqb, List, get_or, sym, refl, ap, ◌∙◌, add-zero, mod-eq_of_lt, add_comm, one-mul, arith}
use native.Mathlib.Nat.{pow-succ', div-eq_of_lt}
use lib.Bits.{bit_and, bit_or, or_shifted_r}
use Rattle.std.proofs.lemmas.Nat.{pow_pos, and_mask, one_shl, shr_high, mod_low}
use Rattle.std.proofs.lemmas.Bool.{ne_eqb}
use Rattle.filter.specs.declared.steps.Axis.{Axis}
use Rattle.filter.specs.declared.steps.Axis.TheVariants.{Child, Descendant}
use Rattle.filter.specs.declared.steps.Step.{Step}
use Rattle.filter.specs.Embedding.{fits, any_to, linked, blank, reaches}
use Rattle.filter.specs.Masks.{column, newest}

below : (b : Bool) (x y : ℕ) → x < y → x + cond b y 0 < 2 * y
below true x y h = omega arith
below false x y h = omega arith

pub col_below : (f : ℕ → Bool) (d : ℕ) → column f d < 2 ^ d
col_below f zero = pow_pos 0
col_below f (suc d) = let e = pow-succ' 2 d in let h = below (f (suc d)) (column f d) (2 ^ d) (col_below f d) in omega arith

high : (x d : ℕ) → x < 2 ^ d → (x + 2 ^ d) / 2 ^ d ≡ 1
high x d h = ap (λ z. z / 2 ^ d) (add_comm x (2 ^ d) ∙ ap (λ z. z + x) (sym (one-mul (2 ^ d)))) ∙ shr_high 1 d x h

low : (x d : ℕ) → x < 2 ^ d → (x + 2 ^ d) % 2 ^ d ≡ x
low x d h = ap (λ z. z % 2 ^ d) (add_comm x (2 ^ d) ∙ ap (λ z. z + x) (sym (one-mul (2 ^ d)))) ∙ mod_low 1 d x h

top : (b : Bool) (x d : ℕ) → x < 2 ^ d → eqb ((x + cond b (2 ^ d) 0) / 2 ^ d) 1 ≡ b
top true x d h = ap (λ z. eqb z 1) (high x d h)
top false x d h = ap (λ z. eqb (z / 2 ^ d) 1) (add-zero x) ∙ ap (λ z. eqb z 1) (div-eq_of_lt h)

pub newest_col : (f : ℕ → Bool) (d : ℕ) → f 0 ≡ false → newest (column f d) d ≡ f d
newest_col f zero h = sym h
newest_col f (suc d) h = top (f (suc d)) (column f d) d (col_below f d)

some : (b : Bool) (x y : ℕ) → 0 < y → not (eqb (x + cond b y 0) 0) ≡ (b || not (eqb x 0))
some true x y h = ap not (ne_eqb (x + y) 0 (omega arith))
some false x y h = ap (λ z. not (eqb z 0)) (add-zero x)

pub any_col : (f : ℕ → Bool) (d : ℕ) → f 0 ≡ false → not (eqb (column f d) 0) ≡ any_to f d
any_col f zero h = sym h
any_col f (suc d) h = some (f (suc d)) (column f d) (2 ^ d) (pow_pos d) ∙ ap (λ t. f (suc d) || t) (any_col f d h)

rest : (b : Bool) (x d : ℕ) → x < 2 ^ d → (x + cond b (2 ^ d) 0) % 2 ^ d ≡ x
rest true x d h = low x d h
rest false x d h = ap (λ z. z % 2 ^ d) (add-zero x) ∙ mod-eq_of_lt h

pub mod_col : (f : ℕ → Bool) (d : ℕ) → column f (suc d) % 2 ^ d ≡ column f d
mod_col f d = rest (f (suc d)) (column f d) d (col_below f d)

pub or_fresh : (x d : ℕ) → d < 32 → x < 2 ^ d → bit_or x ((1 * 2 ^ d) % 2 ^ 32) ≡ x + 2 ^ d
or_fresh x d h l = ap (bit_or x) (one_shl d 32 h ∙ sym (one-mul (2 ^ d))) ∙ or_shifted_r 1 d x l ∙ ap (λ z. z + x) (one-mul (2 ^ d)) ∙ add_comm (2 ^ d) x

-- a mask without its bits from d on
pub kept_bits : (mask d : ℕ) → d < 32 → bit_and mask ((1 * 2 ^ d) % 2 ^ 32 - 1) ≡ mask % 2 ^ d
kept_bits mask d h = ap (λ x. bit_and mask (x - 1)) (one_shl d 32 h) ∙ and_mask mask d

-- the empty prefix is above any depth
pub any_none : (ss : List Step) (path : List ℕ) (d : ℕ) → any_to (reaches ss path 0) d ≡ true
any_none ss path zero = refl
any_none ss path (suc d) = ap (λ b. b || any_to (reaches ss path 0) d) (ne_eqb (suc d) 0 (omega arith)) ∙ any_none ss path d

-- only the numbers up to d count
pub col_local : (f g : ℕ → Bool) (d : ℕ) → ((e : ℕ) → e ≤ d → f e ≡ g e) → column f d ≡ column g d
col_local f g zero h = refl
col_local f g (suc d) h =
    let a = col_local f g d (λ e l. h e (omega arith)) in
    let b = h (suc d) (omega arith) in
    (λ i. a i + cond (b i) (2 ^ d) 0)

any_local : (f g : ℕ → Bool) (d : ℕ) → ((e : ℕ) → e ≤ d → f e ≡ g e) → any_to f d ≡ any_to g d
any_local f g zero h = h 0 (omega arith)
any_local f g (suc d) h =
    let a = any_local f g d (λ e l. h e (omega arith)) in
    let b = h (suc d) (omega arith) in
    (λ i. b i || a i)

pub link_local : (x : Axis) (f g : ℕ → Bool) (d : ℕ) → ((e : ℕ) → e ≤ d → f e ≡ g e) → linked x f d ≡ linked x g d
link_local Child f g d h = h d (omega arith)
link_local Descendant f g d h = any_local f g d h

pub reaches_local : (ss ts : List Step) (p q : List ℕ) (k e : ℕ) → ((j : ℕ) → j < k → get_or ss j blank ≡ get_or ts j blank) → ((j : ℕ) → j < e → get_or p j 0 ≡ get_or q j 0) → reaches ss p k e ≡ reaches ts q k e
reaches_local ss ts p q zero e hs hp = refl
reaches_local ss ts p q (suc k) zero hs hp = refl
reaches_local ss ts p q (suc k) (suc e) hs hp =
    let s = hs k (omega arith) in
    let c = hp e (omega arith) in
    let r = link_local (get_or ss k blank).axis (reaches ss p k) (reaches ts q k) e (λ m l. reaches_local ss ts p q k m (λ j h. hs j (omega arith)) (λ j h. hp j (omega arith))) in
    (λ i. fits (s i).test (c i) && linked (get_or ss k blank).axis (reaches ss p k) e)
    ∙ (λ i. fits (get_or ts k blank).test (get_or q e 0) && r i)
    ∙ (λ i. fits (get_or ts k blank).test (get_or q e 0) && linked (s i).axis (reaches ts q k) e)

pub column_local : (ss : List Step) (p q : List ℕ) (k d : ℕ) → ((j : ℕ) → j < d → get_or p j 0 ≡ get_or q j 0) → column (reaches ss p k) d ≡ column (reaches ss q k) d
column_local ss p q k d h = col_local (reaches ss p k) (reaches ss q k) d (λ e l. reaches_local ss ss p q k e (λ j m. refl) (λ j m. h j (omega arith)))
