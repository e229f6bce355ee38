-- One turn of a reading. Assumes nothing.
use Rattle.std.proofs.Common.{◌≡◌, ℕ, zero, suc, ◌+◌, ◌-◌, ◌<◌, List, [], ◌∷◌, ◌++◌, length, Ok, Err, refl, arith}
use Rattle.std.proofs.lemmas.List.{length_push}
use Rattle.vocabulary.specs.declared.faults.Fault.{Fault}
use Rattle.filter.specs.declared.steps.Step.{Step}
use Rattle.filter_text.specs.Reads.{step_of, read_from}

pub done : (names : List (List ℕ)) (k : ℕ) (acc : List Step) (n : ℕ) (s : List ℕ) → length s ≡ 0 → read_from names k acc n s ≡ Ok acc
done names zero acc n [] e = refl
done names zero acc n (b ∷ s) e = absurd (omega arith)
done names (suc k) acc n [] e = refl
done names (suc k) acc n (b ∷ s) e = absurd (omega arith)

-- with k + 1 more to come
pub turn : (names : List (List ℕ)) (k : ℕ) (acc : List Step) (n : ℕ) (s : List ℕ) (x : Step) (after : List ℕ) → 0 < length s → step_of names n s ≡ Ok (x, after) → read_from names (suc k) acc n s ≡ read_from names k (acc ++ x ∷ []) (n + (length s - length after)) after
turn names k acc n [] x after h e = absurd (omega arith)
turn names k acc n (b ∷ s) x after h e = rw e

pub stop : (names : List (List ℕ)) (k : ℕ) (acc : List Step) (n : ℕ) (s : List ℕ) (f : Fault) → 0 < length s → step_of names n s ≡ Err f → read_from names (suc k) acc n s ≡ Err f
stop names k acc n [] f h e = absurd (omega arith)
stop names k acc n (b ∷ s) f h e = rw e

-- with the steps acc read, of eight at most
module _ (names : List (List ℕ)) (acc : List Step) (room : length acc < 8) (n : ℕ) where
  left : (x : Step) → 8 - length acc ≡ suc (8 - length (acc ++ x ∷ []))
  left x = omega (arith, length_push acc x)

  pub onward : (s : List ℕ) (x : Step) (after : List ℕ) (m : ℕ) → 0 < length s → step_of names n s ≡ Ok (x, after) → m ≡ n + (length s - length after) → read_from names (8 - length acc) acc n s ≡ read_from names (8 - length (acc ++ x ∷ [])) (acc ++ x ∷ []) m after
  onward s x after m h e place = rw (left x, place) (turn names (8 - length (acc ++ x ∷ [])) acc n s x after h e)

  pub stopped : (s : List ℕ) (f : Fault) → 0 < length s → step_of names n s ≡ Err f → read_from names (8 - length acc) acc n s ≡ Err f
  stopped s f h e = let more : 8 - length acc ≡ suc (7 - length acc) = omega arith in rw more (stop names (7 - length acc) acc n s f h e)
