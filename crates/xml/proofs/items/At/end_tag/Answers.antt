-- An end tag, by what comes behind its name. Assumes nothing.
use Rattle.std.proofs.Common.{◌≡◌, ◌+◌, ◌-◌, drop, ap, ◌∙◌, subst, arith}
use Rattle.std.proofs.lemmas.List.{take_rest}
use Rattle.vocabulary.specs.Names.{name_size}
use Rattle.markup.specs.Runs.{shifted, standing}
use Rattle.markup.specs.Tags.{scan_from}
use Rattle.markup.specs.declared.tags.Tag.{Tag}
use Rattle.xml.specs.Tags.{Reads, EndTagged}
use Rattle.xml.proofs.Pieces.{past_length}
use Rattle.xml.proofs.Tagging.{named_tagged, unnamed_tagged}
use Rattle.xml.proofs.items.At.end_tag.Goals as goal
use Rattle.xml.proofs.items.At.end_tag.Goals.{then-size-eq0, else-size-eq0}

pub returns : goal.returns
returns c =
    let m = c.args.self.message.now in
    let p = c.args.self.place in
    let size = c.name_len-size.result in
    let e : size ≡ name_size (drop (p + 2) m) = c.name_len-size.ensures.answer ∙ ap name_size (take_rest m (p + 2)) in
    let l = past_length m (p + 2) in
    let upto = c.name_len-size.ensures.within in
    let within = c.requires.end_tag.within in
    let reads = λ (t : Tag). Reads p (record { start = p + 2; end = p + 2 + size }) (shifted (p + 2 + size - (p + 1)) (scan_from (standing t) (drop (p + 2 + size) m))) c.tagged.result in
    let is : EndTagged m p c.tagged.result = elim c.if-size-eq0.branch [
      | then-size-eq0 w ↦ unnamed_tagged m p size e c.requires.end_tag.slashed (omega arith) (omega arith) c.tagged.result (subst reads w.tag-is c.tagged.ensures.answer)
      | else-size-eq0 w ↦ named_tagged m p size e c.requires.end_tag.slashed (omega arith) (omega arith) c.tagged.result (subst reads w.tag-is c.tagged.ensures.answer)
    ] in
    record { answer = is }
