use Rattle.rows.specs.Rows.{items_of}
use Rattle.std.proofs.Common.{refl}
use Rattle.vocabulary.proofs.Entries.{inside_none, short_none, heads_none, links_none}
use Rattle.vocabulary.proofs.tables.Table.new.Goals as goal

pub invariant_of-result : goal.invariant_of-result
invariant_of-result c =
    let text = c.args.text.now in
    let es = items_of c.new.result in
    let none = c.new.ensures.items in
    record { inside = inside_none text es none; short = short_none text es none; whole = refl; headed = heads_none text es none; linked = links_none text es none }
