-- The last span is that of the innermost name. Assumes nothing.
use Rattle.std.proofs.Common.{sym}
use Rattle.rows.specs.Rows.{items_of}
use Rattle.xml.proofs.Stack.{innermost_is}
use Rattle.xml.proofs.texts.TextReader.innermost.Goals as goal

pub returns : goal.returns
returns c =
    let s = c.args.self.now in
    record { answer = innermost_is s.message.now (items_of s.spans) c.in_ok-span.span (sym c.in_ok-span.ensures.value) s.spelt c.of.result c.of.ensures.answer }
