-- The test of a prefix at the front of a path, and of one step more at one element more. Assumes nothing.
use Rattle.std.proofs.Common.{◌≡◌, ℕ, suc, ◌<◌, ◌≤◌, false, ◌&&◌, List, [], ◌∷◌, ◌++◌, length, get_or, take, sym, ap, ◌∙◌, add-one, arith, length-take-le, take_all, get_or-take}
use Rattle.std.proofs.lemmas.List.{length_push}
use lib.Seq.{take-append_seam, get_or-append_seam}
use Rattle.filter.specs.declared.steps.Step.{Step}
use Rattle.filter.specs.Embedding.{reaches, embeds, blank, fits, linked}
use Rattle.filter.proofs.Bits.{reaches_local, link_local}

-- the table over the arrays, and over their fronts
pub front : (ss : List Step) (p : List ℕ) (k e : ℕ) → k ≤ length ss → e ≤ length p → reaches ss p k e ≡ embeds (take k ss) (take e p)
front ss p k e ks ep =
    let a = length-take-le k ss ks in
    let b = length-take-le e p ep in
    reaches_local ss (take k ss) p (take e p) k e (λ j h. sym (get_or-take k ss j blank h)) (λ j h. sym (get_or-take e p j 0 h)) ∙ (λ i. reaches (take k ss) (take e p) (sym a i) (sym b i))

-- one more step at one more element, as a test
pub embeds_snoc : (ss : List Step) (s : Step) (path : List ℕ) (e : ℕ) → e < length path → embeds (ss ++ s ∷ []) (take (suc e) path) ≡ (fits s.test (get_or path e 0) && linked s.axis (λ m. embeds ss (take m path)) e)
embeds_snoc ss s path e h =
    let n = length ss in
    let len : length (ss ++ s ∷ []) ≡ suc n = length_push ss s ∙ add-one n in
    let whole : take (suc n) (ss ++ s ∷ []) ≡ ss ++ s ∷ [] = take_all (suc n) (ss ++ s ∷ []) (omega arith) in
    let last : get_or (ss ++ s ∷ []) n blank ≡ s = get_or-append_seam ss s [] blank in
    let back : (m : ℕ) → m ≤ e → reaches (ss ++ s ∷ []) path n m ≡ embeds ss (take m path) =
    (λ m l. front (ss ++ s ∷ []) path n m (omega arith) (omega arith) ∙ ap (λ x. embeds x (take m path)) (take-append_seam ss (s ∷ []))) in
    sym (ap (λ x. embeds x (take (suc e) path)) whole) ∙ sym (front (ss ++ s ∷ []) path (suc n) (suc e) (omega arith) h)
    ∙ (λ i. fits (last i).test (get_or path e 0) && linked (last i).axis (reaches (ss ++ s ∷ []) path n) e)
    ∙ ap (λ b. fits s.test (get_or path e 0) && b) (link_local s.axis (reaches (ss ++ s ∷ []) path n) (λ m. embeds ss (take m path)) e back)

-- no step stands at the root's parent
pub embeds_root : (ss : List Step) (s : Step) → embeds (ss ++ s ∷ []) [] ≡ false
embeds_root ss s = ap (λ k. reaches (ss ++ s ∷ []) [] k 0) (length_push ss s ∙ add-one (length ss))
