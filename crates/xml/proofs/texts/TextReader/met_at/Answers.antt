-- The innermost open name, met at once. Assumes nothing.
use Rattle.std.proofs.Common.{◌+◌, [], ◌∷◌, ◌++◌, drop, ap, ◌∙◌, subst}
use Rattle.markup.specs.Bytes.{begins, close_angle}
use Rattle.xml.specs.Tags.{EndNamed}
use Rattle.xml.specs.Texts.{bytes_of, open_names}
use Rattle.xml.proofs.Stack.{closes_by, inner_name, met_by}
use Rattle.xml.proofs.texts.TextReader.met_at.Goals as goal

pub end_named-requires : goal.end_named-requires
end_named-requires c =
    let s = c.args.self.now in
    let n = inner_name (open_names s) c.in_ok-innermost.field-0 c.in_ok-innermost.ensures.answer in
    record { end_tag = c.requires.end_tag; some = n.0; name = n.1 }

pub returns : goal.returns
returns c =
    let s = c.args.self.now in
    let p = c.args.at.place in
    let names = open_names s in
    let x = c.in_ok-innermost.field-0 in
    let inner = c.in_ok-innermost.ensures.answer in
    let is = subst (λ m. EndNamed m p x.now c.end_named.result) c.requires.ready.here c.end_named.ensures.answer in
    record {
      answer = met_by (bytes_of s) p names x c.end_named.result inner is;
      when = c.end_named.ensures.when ∙ ap (λ m. begins (x.now ++ close_angle ∷ []) (drop (p + 2) m)) c.requires.ready.here ∙ closes_by names x (drop (p + 2) (bytes_of s)) inner;
    }
