-- A recording on disk: each word is two bytes, the low one first. Assumes nothing.
use Rattle.std.specs.Prelude.{ℕ, ◌+◌, ◌*◌, List, [], ◌∷◌}

-- the words in the bytes; an odd byte at the end is left over
abbrev pub words_in : List ℕ → List ℕ
words_in [] = []
words_in (low ∷ []) = []
words_in (low ∷ high ∷ bytes) = (low + 256 * high) ∷ words_in bytes
