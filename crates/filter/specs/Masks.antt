-- The masks of a walk. Assumes nothing.
use Rattle.std.specs.Prelude.{◌≡◌, ℕ, zero, suc, ◌+◌, ◌/◌, ◌^◌, ◌<◌, Bool, false, cond, List, length, ◌==◌, slice_index}
use Rattle.filter.specs.Embedding.{reaches}
use Rattle.filter.specs.declared.steps.Step.{Step}

-- the number whose bit d - 1 is the test at d, for each d from 1 to the second argument
abbrev pub column : (ℕ → Bool) → ℕ → ℕ
column f zero = 0
column f (suc d) = column f d + cond (f (suc d)) (2 ^ d) 0

-- the bit of the depth d, of a number with no bit above it
abbrev pub newest : ℕ → ℕ → Bool
newest mask zero = false
newest mask (suc d) = mask / 2 ^ d == 1

-- bit d - 1 of mask k says that the first k + 1 steps embed at the element of depth d, for each d up to `depth`
abbrev pub Columns : List Step → List ℕ → List ℕ → ℕ → Type 0
Columns steps path masks depth = (k : ℕ) → k < length steps → slice_index masks k ≡ column (reaches steps path (suc k)) depth
