use Rattle.rows.specs.Rows.{items_of}
use Rattle.std.proofs.Common.{◌≡◌, ◌≤◌, ◌++◌, ◌∷◌, [], length, get_or, take, drop, ◌-◌, ◌∙◌, refl, length-set, arith}
use Rattle.vocabulary.specs.declared.tables.Entry.{Entry}
use Rattle.vocabulary.specs.Entries.{bucket_of, cut, no_link}
use Rattle.vocabulary.specs.Limits.{most_name_bytes}
use Rattle.vocabulary.proofs.Entries.{held, cut_length, inside_grown, short_grown, heads_grown, links_grown}
use Rattle.vocabulary.proofs.tables.Table.add.Goals as goal

pub invariant_of-self : goal.invariant_of-self
invariant_of-self c =
    let t = c.args.self.now in
    let text = t.text.now in
    let es = items_of t.entries in
    let e : Entry = record { start = c.args.start; end = c.args.end; before = get_or t.heads c.bucket_of-bucket.result no_link } in
    let out = items_of c.push.new.self in
    let pushed : out ≡ es ++ e ∷ [] = held c.push.result c.unwrap.result c.unwrap.ensures c.push.ensures.ok in
    let from = c.from.ensures in
    let to = c.from-2.ensures in
    let is = c.bucket_of-bucket.ensures.answer ∙ (λ i. bucket_of (take (to i - from i) (drop (from i) text))) in
    let within = c.bucket_of-bucket.ensures.within in
    let size = cut_length text e c.requires.inside in
    let few = c.requires.short in
    let short : length (cut text e) ≤ most_name_bytes = omega arith in
    record {
      inside = inside_grown text es e out pushed t.inside c.requires.inside;
      short = short_grown text es e out pushed t.short short;
      whole = length-set _ _ _ ∙ t.whole;
      headed = heads_grown text es e out pushed t.heads t.whole t.headed _ _ is within c.len.ensures.value c.to.result c.to.ensures.answer;
      linked = links_grown text es e out pushed t.heads t.whole t.headed _ _ is within c.len.ensures.value c.to.result c.to.ensures.answer t.linked refl;
    }
