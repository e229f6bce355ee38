-- What holds of every row. Assumes nothing.
use Rattle.std.proofs.Common.{ℕ, ◌≤◌, length, arith, length-take-le}
use Rattle.rows.specs.declared.rows.Row.{Row}
use Rattle.rows.specs.Rows.{items_of}

-- it has at most N items
pub items_few : {T : Type 0} {N : ℕ} (r : Row T N) → length (items_of r) ≤ N
items_few r = let few = r.within in let all = r.whole in omega (arith, length-take-le r.len r.slots (omega arith))
