-- The machine over several bytes, and the reading of a message over a whole piece of markup. Assumes nothing.
use Rattle.std.proofs.Common.{◌≡◌, ℕ, ◌+◌, Bool, List, [], ◌∷◌, ◌++◌, length, sym, refl, ◌∙◌, append_assoc, arith}
use Rattle.std.proofs.lemmas.List.{append-nil}
use Rattle.message.specs.declared.events.Event.{Event}
use Rattle.message.specs.Sources.{Ending}
use Rattle.markup.specs.Bytes.{open_angle}
use Rattle.markup.specs.Grammar.{Kind}
use Rattle.markup.specs.Tags.{at_open, Move, on, ended, misplaced, misfit, after, name_in}
use Rattle.markup.specs.Readings.{Stand, Status, between, Step, acted, moved, events_from, ending_from}

-- one more byte, and several
abbrev pub next : Move → ℕ → Move
next (on s) b = after s b
next (ended k) b = misfit
next misplaced b = misfit
next misfit b = misfit

abbrev pub final : Move → List ℕ → Move
final v [] = v
final v (b ∷ bs) = final (next v b) bs

-- behind a byte that does not fit nothing ends
pub stuck : (bs : List ℕ) → final misfit bs ≡ misfit
stuck [] = refl
stuck (b ∷ bs) = stuck bs

-- the events and the ending
abbrev pub Reading : Type 0
Reading = List Event × Ending

abbrev pub reading : List (List ℕ) → Status → ℕ → List ℕ → Reading
reading voc s n bs = (events_from voc s n bs, ending_from voc s n bs)

abbrev pub add : List Event → Reading → Reading
add es r = (es ++ r.0, r.1)

-- a step, and then the bytes t from the place n on
abbrev pub then : List (List ℕ) → List ℕ → Step → ℕ → Reading
then voc t x n = add x.told (reading voc x.next n t)

abbrev pub with : List (List ℕ) → Bool → Stand
with ns o = record { names = ns; over = o }

module _ (voc : List (List ℕ)) (st : Stand) (p : ℕ) (k : Kind) (t : List ℕ) where
  moves : (v : Move) (m acc : List ℕ) (n : ℕ) → final v m ≡ ended k
      → then voc (m ++ t) (moved voc st p n acc v) (n + 1) ≡ then voc t (acted voc st p k (name_in k (acc ++ m))) (n + 1 + length m)
  moves (on s) [] acc n h = absurd cc
  moves (on s) (b ∷ m) acc n h =
      let a : (acc ++ b ∷ []) ++ m ≡ acc ++ b ∷ m = append_assoc acc (b ∷ []) m in
      let c : n + 1 + 1 + length m ≡ n + 1 + length (b ∷ m) = omega arith in
      moves (after s b) m (acc ++ b ∷ []) (n + 1) h ∙ (λ i. then voc t (acted voc st p k (name_in k (a i))) (c i))
  moves (ended j) [] acc n h =
      let a : j ≡ k = cc in
      let c : n + 1 ≡ n + 1 + length {A = ℕ} [] = omega arith in
      λ i. then voc t (acted voc st p (a i) (name_in (a i) (sym (append-nil acc) i))) (c i)
  moves (ended j) (b ∷ m) acc n h = absurd (cc (stuck m))
  moves misplaced [] acc n h = absurd cc
  moves misplaced (b ∷ m) acc n h = absurd (cc (stuck m))
  moves misfit m acc n h = absurd (cc (stuck m))

-- markup that ends is acted on
pub marks : (voc : List (List ℕ)) (st : Stand) (n : ℕ) (k : Kind) (m t : List ℕ) → final (on at_open) m ≡ ended k
    → reading voc (between st) n (open_angle ∷ (m ++ t)) ≡ then voc t (acted voc st n k (name_in k m)) (n + (1 + length m))
marks voc st n k [] t h = absurd cc
marks voc st n k (b ∷ m) t h =
    let c : n + 1 + 1 + length m ≡ n + (1 + length (b ∷ m)) = omega arith in
    moves voc st n k t (after at_open b) m (b ∷ []) (n + 1) h ∙ (λ i. then voc t (acted voc st n k (name_in k (b ∷ m))) (c i))
