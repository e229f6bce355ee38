-- One pair of bytes at a time. Assumes nothing.
use Rattle.std.proofs.Common.{◌≡◌, ℕ, ◌+◌, ◌-◌, ◌*◌, ◌<◌, ◌≤◌, List, [], ◌∷◌, ◌++◌, length, get_or, take, drop, sym, refl, ap, ◌∙◌, append_assoc, arith}
use Rattle.std.proofs.lemmas.List.{take_rest, append-nil}
use Rattle.router.specs.Pairs.{words_in}

pair_more : (bs : List ℕ) → 2 ≤ length bs → words_in bs ≡ (get_or bs 0 0 + 256 * get_or bs 1 0) ∷ words_in (take (length bs - 2) (drop 2 bs))
pair_more [] h = absurd (omega arith)
pair_more (a ∷ []) h = absurd (omega arith)
pair_more (a ∷ b ∷ bs) h = ap (λ t. (a + 256 * b) ∷ words_in t) (sym (take_rest (a ∷ b ∷ bs) 2))

pair_none : (bs : List ℕ) → length bs < 2 → words_in bs ≡ []
pair_none [] h = refl
pair_none (a ∷ []) h = refl
pair_none (a ∷ b ∷ bs) h = absurd (omega arith)

pub more : (old new rest all : List ℕ) (w : ℕ) → 2 ≤ length rest → w ≡ get_or rest 0 0 + 256 * get_or rest 1 0 → new ≡ old ++ w ∷ [] → old ++ words_in rest ≡ all → new ++ words_in (take (length rest - 2) (drop 2 rest)) ≡ all
more old new rest all w h is push inv =
    ap (λ x. x ++ words_in (take (length rest - 2) (drop 2 rest))) push ∙ append_assoc old (w ∷ []) (words_in (take (length rest - 2) (drop 2 rest)))
    ∙ ap (λ x. old ++ x) (ap (λ x. x ∷ words_in (take (length rest - 2) (drop 2 rest))) is ∙ sym (pair_more rest h)) ∙ inv

pub none : (old rest all : List ℕ) → length rest < 2 → old ++ words_in rest ≡ all → old ≡ all
none old rest all h inv = sym (append-nil old) ∙ ap (λ x. old ++ x) (sym (pair_none rest h)) ∙ inv
