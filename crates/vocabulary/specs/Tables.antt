-- The names of a table. Assumes nothing.
use Rattle.std.specs.Prelude.{ℕ, List}
use Rattle.rows.specs.Rows.{items_of}
use Rattle.vocabulary.specs.Entries.{names_on}
use Rattle.vocabulary.specs.declared.tables.Table.{Table}

-- the names by their codes
abbrev pub names_in : Table → List (List ℕ)
names_in t = names_on t.text.now (items_of t.entries)
