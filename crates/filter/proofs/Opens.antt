-- A walk over one more element, and one less. Assumes nothing.
use Rattle.std.proofs.Common.{◌≡◌, ℕ, zero, suc, ◌-◌, ◌%◌, ◌^◌, ◌<◌, ◌≤◌, Bool, List, [], ◌∷◌, ◌++◌, length, get_or, take, sym, refl, ap, ◌∙◌, subst, add-one, arith, length-take-le, get_or-take}
use Rattle.std.proofs.lemmas.List.{length_push}
use Rattle.filter.specs.declared.steps.Step.{Step}
use Rattle.filter.specs.Embedding.{reaches}
use Rattle.filter.specs.Masks.{column, Columns}
use Rattle.filter.proofs.Bits.{column_local, mod_col}

-- one element more on the path, with its bits in the columns
pub columns_push : (ss steps : List Step) (p path masks pushed : List ℕ) (c : ℕ) → ss ≡ steps → p ≡ path → pushed ≡ path ++ c ∷ [] → Columns ss (p ++ c ∷ []) masks (suc (length p)) → Columns steps pushed masks (length pushed)
columns_push ss steps p path masks pushed c es ep e h = λ k l.
    let len : length pushed ≡ suc (length path) = ap length e ∙ length_push path c ∙ add-one (length path) in
    h k (omega (arith, ap length es)) ∙ (λ i. column (reaches (es i) (ep i ++ c ∷ []) (suc k)) (suc (length (ep i)))) ∙ (λ i. column (reaches steps (sym e i) (suc k)) (sym len i))

-- a column without its last bit, if it has one
mod_less : (f : ℕ → Bool) (d e : ℕ) → d ≡ e - 1 → column f e % 2 ^ d ≡ column f d
mod_less f d zero same = let none : d ≡ 0 = omega arith in subst (λ n. 0 % 2 ^ n ≡ column f n) (sym none) refl
mod_less f d (suc e) same = let one : e ≡ d = omega arith in ap (λ n. column f (suc n) % 2 ^ d) one ∙ mod_col f d

-- one element less on the path leaves the columns without its bits
pub columns_pop : (steps : List Step) (path masks front after : List ℕ) (d : ℕ) → front ≡ take (length path - 1) path → d ≡ length front → length steps ≤ length masks → Columns steps path masks (length path) → ((k : ℕ) → k < length masks → get_or after k 0 ≡ get_or masks k 0 % 2 ^ d) → Columns steps front after (length front)
columns_pop steps path masks front after d same depth few old less = λ k l.
    let len = ap length same ∙ length-take-le (length path - 1) path (omega arith) in
    less k (omega arith) ∙ ap (λ m. m % 2 ^ d) (old k l) ∙ mod_less (reaches steps path (suc k)) d (length path) (omega arith) ∙ ap (column (reaches steps path (suc k))) depth
    ∙ column_local steps path front (suc k) (length front) (λ j m. sym (get_or-take (length path - 1) path j 0 (omega arith)) ∙ ap (λ p. get_or p j 0) (sym same))
