-- What a row stands for. Assumes nothing.
use Rattle.std.specs.Prelude.{ℕ, List, take}
use Rattle.rows.specs.declared.rows.Row.{Row}

-- the items, the first one first
abbrev pub items_of : {T : Type 0} {N : ℕ} → Row T N → List T
items_of r = take r.len r.slots
