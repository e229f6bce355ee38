-- The bounds of the product, each with its constant of the same name in src/limits.rt. Assumes nothing.
use Rattle.std.specs.Prelude.{ℕ}

-- the names of a vocabulary at most, and so the greatest code
abbrev pub most_names : ℕ
most_names = 512

-- the bytes of a name in a vocabulary or a filter at most
abbrev pub most_name_bytes : ℕ
most_name_bytes = 32

-- the steps of a filter at most
abbrev pub most_steps : ℕ
most_steps = 8

-- the elements open at a time at most
abbrev pub most_open : ℕ
most_open = 32
