-- An element is opened. Assumes nothing.
use Rattle.std.specs.List.{All}
use Rattle.std.proofs.Common.{sym, subst}
use Rattle.rows.specs.Rows.{items_of}
use Rattle.vocabulary.proofs.Entries.{held}
use Rattle.xml.specs.Items.{IsName}
use Rattle.xml.proofs.Named.{tag_name}
use Rattle.xml.proofs.Stack.{all_pushed}
use Rattle.xml.proofs.texts.TextReader.open.Goals as goal

pub invariant_of-self-clause-spelt : goal.invariant_of-self-clause-spelt
invariant_of-self-clause-spelt c =
    let r = c.args.self.now in
    let m = r.message.now in
    let x = c.args.tag.name in
    subst (All (IsName m)) (sym (held c.push.result c.unwrap.result c.unwrap.ensures c.push.ensures.ok)) (all_pushed m (items_of r.spans) x r.spelt (tag_name m c.args.at.place c.args.tag c.requires.tag))
