-- A vocabulary has at most 512 names. Assumes nothing.
use Rattle.std.proofs.Common.{◌≤◌, length, take, length-take, arith}
use lib.ListN.{length-map}
use Rattle.vocabulary.specs.Entries.{cut}
use Rattle.vocabulary.specs.Limits.{most_names}
use Rattle.vocabulary.specs.Readings.{names_of}
use Rattle.vocabulary.specs.declared.vocabularies.Vocabulary.{Vocabulary}

pub names_few : (v : Vocabulary) → length (names_of v) ≤ most_names
names_few v =
    let r = v.table.entries in
    let few = r.within in
    let l = length-map (take r.len r.slots) (cut v.table.text.now) in
    let k = length-take r.len r.slots in
    omega arith
