-- A start tag, by what comes behind its name. Assumes nothing.
use Rattle.std.proofs.Common.{◌+◌, length, ap, ◌∙◌, arith, length-drop}
use Rattle.std.proofs.lemmas.List.{take_rest}
use Rattle.vocabulary.specs.Names.{name_size}
use Rattle.xml.proofs.Tagging.{start_tagged}
use Rattle.xml.proofs.items.At.start_tag.Goals as goal

pub returns : goal.returns
returns c =
    let m = c.args.self.message.now in
    let p = c.args.self.place in
    let size = c.name_len.result in
    let e = c.name_len.ensures.answer ∙ ap name_size (take_rest m (p + 1)) in
    let l = ap length (take_rest m (p + 1)) ∙ length-drop (p + 1) m in
    let upto = c.name_len.ensures.within in
    let within = c.args.self.within in
    record { answer = start_tagged m p size c.requires.named e (omega arith) c.tagged.result c.tagged.ensures.answer }
