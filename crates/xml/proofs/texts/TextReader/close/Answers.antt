-- An element is closed. Assumes nothing.
use Rattle.std.proofs.Common.{◌≡◌, ◌-◌, length, drop, refl, sym, ap, ◌∙◌, subst}
use Rattle.std.specs.List.{All}
use Rattle.std.proofs.lemmas.List.Elements.{All-take}
use Rattle.rows.specs.Rows.{items_of}
use Rattle.markup.specs.Readings.{is_empty}
use Rattle.xml.specs.Items.{IsName}
use Rattle.xml.specs.Texts.{bytes_of, names_at, open_names}
use Rattle.xml.proofs.Stack.{none_open, popped}
use Rattle.xml.proofs.texts.TextReader.close.Goals as goal

pub invariant_of-self-clause-spelt : goal.invariant_of-self-clause-spelt
invariant_of-self-clause-spelt c =
    let s = c.args.self.now in
    let m = bytes_of s in
    subst (All (IsName m)) (sym c.pop.ensures.items) (All-take (IsName m) (length (items_of s.spans) - 1) (items_of s.spans) s.spelt)

pub returns : goal.returns
returns c =
    let s = c.args.self.now in
    let m = bytes_of s in
    let stack : names_at m (items_of c.pop.new.self) ≡ drop 1 (open_names s) = ap (names_at m) c.pop.ensures.items ∙ popped m (items_of s.spans) in
    record {
      after = record {
        bytes = refl;
        codes = refl;
        placed = refl;
        stack = stack;
        ended = c.is_empty-self.ensures.value ∙ sym (none_open m (items_of c.pop.new.self)) ∙ ap is_empty stack;
        owing = c.requires.ready.idle;
        last = refl;
        count = refl;
      };
    }
