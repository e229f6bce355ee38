-- An end tag of a known name. Assumes nothing.
use Rattle.std.proofs.Common.{◌≡◌, Bool, true, false, sym, ◌∙◌, arith}
use Rattle.std.proofs.lemmas.Slice.Eq.{bytes_eq-Decides}
use Rattle.xml.proofs.Named.{end_of_name, stands_at, stood_at, untrue}
use Rattle.xml.proofs.items.At.end_named.Goals as goal
use Rattle.xml.proofs.items.At.end_named.Goals.{then-not-is_closed-via-then-not-is_closed, then-not-is_closed-via-else-not-is_closed+then-not-is_same_name}

pub returns : goal.returns
returns c =
    let m = c.args.self.message.now in
    let name = c.args.name.now in
    let within = c.requires.end_tag.within in
    let left = c.if-name-self.false in
    let same = (bytes_eq-Decides _ name).0 (sym c.if-not-is_same_name.ensures.answer) in
    record {
      answer = (end_of_name m c.args.self.place name c.requires.some c.requires.name (omega arith) (omega arith) c.requires.end_tag.slashed same, same);
      when = sym (stands_at m c.args.self.place name (omega arith) (omega arith) same);
    }

pub returns-then-name-self-clause-when : goal.returns-then-name-self-clause-when
returns-then-name-self-clause-when c =
    let m = c.args.self.message.now in
    let within = c.requires.end_tag.within in
    untrue _ (λ h. let far = stood_at m c.args.self.place c.args.name.now within h in omega arith)

pub returns-then-not-is_closed-clause-when : goal.returns-then-not-is_closed-clause-when
returns-then-not-is_closed-clause-when c =
    let m = c.args.self.message.now in
    let name = c.args.name.now in
    let within = c.requires.end_tag.within in
    untrue _ (λ h.
    let far = stood_at m c.args.self.place name within h in
    elim c.then-not-is_closed.branch [
      | then-not-is_closed-via-then-not-is_closed w ↦ w.if-not-is_closed.true far.2
      | then-not-is_closed-via-else-not-is_closed+then-not-is_same_name w ↦
          (let z : ◌≡◌ {A = Bool} false true = w.if-not-is_same_name.ensures.answer ∙ (bytes_eq-Decides _ name).1 far.1 in cc)
    ])
