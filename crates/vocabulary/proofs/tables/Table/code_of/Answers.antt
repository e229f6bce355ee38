use Rattle.rows.specs.Rows.{items_of}
use Rattle.std.proofs.Common.{◌-◌, ◌<◌, length, get_or, sym, ap, ◌∙◌, subst, arith}
use Rattle.std.specs.Option.{unwrap_or}
use Rattle.std.specs.Str.{bytes_eq}
use Rattle.vocabulary.specs.declared.tables.Entry.{Entry}
use Rattle.vocabulary.specs.Entries.{latest, link_of, no_link}
use Rattle.vocabulary.specs.Tables.{names_in}
use Rattle.vocabulary.proofs.Buckets.{Looking, looking_first}
use Rattle.vocabulary.proofs.Entries.{count_names, entry_passed}
use Rattle.vocabulary.proofs.tables.Table.code_of.Goals as goal

-- past the last entry, never looked at
abbrev no_entry : Entry
no_entry = record { start = 0; end = 0; before = no_link }

pub loop-next-init : goal.loop-next-init
loop-next-init c =
    let t = c.args.self.now in
    let b = c.bucket_of.ensures.answer in
    looking_first (names_in t) c.args.name.now _
    (c.get-next.ensures.answer ∙ t.headed c.bucket_of.result c.bucket_of.ensures.within ∙ ap (λ h. latest (names_in t) h (length (items_of t.entries))) b ∙ ap (latest (names_in t) _) (sym (count_names t.text.now (items_of t.entries))))

pub overflow_sub-entry : goal.overflow_sub-entry
overflow_sub-entry c = let k = c.loop-next.invariant.known c.in-Some.code c.in-Some.is in let e = c.from.ensures in omega arith

next : (c : goal.After-get-next-in-Some) → (unwrap_or (link_of (get_or c.as_slice.result.now (c.from.result - 1) no_entry).before) 0 < c.in-Some.code) × Looking (names_in c.args.self.now) c.args.name.now (link_of (get_or c.as_slice.result.now (c.from.result - 1) no_entry).before)
next c =
    let t = c.args.self.now in
    entry_passed t.text.now (items_of t.entries) _ c.as_slice.ensures.items c.args.name.now c.in-Some.code c.from.result c.from.ensures no_entry
    (subst (Looking (names_in t) c.args.name.now) c.in-Some.is c.loop-next.invariant) t.linked (c.if-is_same_name.ensures.answer ∙ ap (λ n. bytes_eq n c.args.name.now) c.name.ensures.answer)

pub loop-next-smaller : goal.loop-next-smaller
loop-next-smaller c =
    let n = (next c).0 in
    let e = ap (λ o. unwrap_or o 0) c.in-Some.is in
    let is = ap (λ o. unwrap_or o 0) c.get-next-in-Some.ensures.answer in
    omega arith

pub loop-next-preserved : goal.loop-next-preserved
loop-next-preserved c = subst (Looking (names_in c.args.self.now) c.args.name.now) (sym c.get-next-in-Some.ensures.answer) (next c).1
