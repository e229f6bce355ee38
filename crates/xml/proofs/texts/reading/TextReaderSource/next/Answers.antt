-- Each way through `next` is a turn. Assumes nothing.
use Rattle.std.proofs.Common.{◌≡◌, ◌≤◌, length, cond, Some, Ok, sym, refl, ap, ◌∙◌, subst}
use Rattle.message.specs.Sources.{closed, faulted, told, rest, counted}
use Rattle.markup.specs.Readings.{most_text}
use Rattle.xml.specs.declared.texts.TextReader.{TextReader}
use Rattle.xml.specs.Seeks.{SoughtIn, SoughtBy}
use Rattle.xml.specs.Texts.{Answer, bytes_of, codes_of, stand_of, events_of, ending_of, Turn}
use Rattle.xml.proofs.Refusals.{handed_on}
use Rattle.xml.proofs.Turns.{stay_by, events_are, ending_is, idle_coming, inside_is}
use Rattle.xml.proofs.texts.reading.TextReaderSource.next.Goals as goal

-- a turn that leaves the reader as it is
module _ (s : TextReader) (r : Answer) (small : length (bytes_of s) ≤ most_text) (t : Turn s r s) where
  said : r ≡ told (events_of s) (ending_of s)
  said = t.answer ∙ sym (λ i. told (events_are s small i) (ending_is s small i))

  kept : events_of s ≡ rest (events_of s)
  kept = events_are s small ∙ t.left ∙ sym (ap rest (events_are s small))

  count : s.taken ≡ counted (events_of s) s.taken
  count = t.taken ∙ sym (ap (λ es. counted es s.taken) (events_are s small))

pub returns-in_err-at : goal.returns-in_err-at
returns-in_err-at c =
    let s = c.args.self.now in
    let small : length (bytes_of s) ≤ most_text = c.if-self-gt-MOST_TEXT.false in
    let e = handed_on c.from_residual.result c.from_residual.ensures.1 in
    let f = c.in_err-at.field-0.0 in
    let h = c.in_err-at.ensures.told (codes_of s) (stand_of s) (inside_is s c.is_empty.result c.is_empty.ensures.value) in
    let t = stay_by s c.from_residual.result (faulted f) e (idle_coming s small c.in_default.is ∙ h.0) h.1 in
    record { answer = said s _ small t; left = kept s _ small t; ending = refl; taken = count s _ small t; name = t.latest; code = t.code }

pub start_tag-requires : goal.start_tag-requires
start_tag-requires c =
    let s = c.args.self.now in
    let is = c.in-Some-Start.is ∙ ap Some c.in-Some-Start.field-0-is in
    let x = subst (λ y. SoughtIn (bytes_of s) s.place (Ok y)) is c.in_ok-at.ensures.found in
    let h = subst (λ y. SoughtBy (codes_of s) (stand_of s) (bytes_of s) s.place (Ok y)) is (c.in_ok-at.ensures.told (codes_of s) (stand_of s) (inside_is s c.is_empty.result c.is_empty.ensures.value)) in
    record { ready = record { here = x.0; ahead = x.1; idle = c.in_default.is }; named = x.2; onwards = h }

pub end_tag-requires : goal.end_tag-requires
end_tag-requires c =
    let s = c.args.self.now in
    let is = c.in-Some-End.is ∙ ap Some c.in-Some-End.field-0-is in
    let x = subst (λ y. SoughtIn (bytes_of s) s.place (Ok y)) is c.in_ok-at.ensures.found in
    let h = subst (λ y. SoughtBy (codes_of s) (stand_of s) (bytes_of s) s.place (Ok y)) is (c.in_ok-at.ensures.told (codes_of s) (stand_of s) (inside_is s c.is_empty.result c.is_empty.ensures.value)) in
    record { ready = record { here = x.0; ahead = x.1; idle = c.in_default.is }; end_tag = x.2; onwards = h }

-- the text ends
pub returns-in-None : goal.returns-in-None
returns-in-None c =
    let s = c.args.self.now in
    let small : length (bytes_of s) ≤ most_text = c.if-self-gt-MOST_TEXT.false in
    let h = subst (λ y. SoughtBy (codes_of s) (stand_of s) (bytes_of s) s.place (Ok y)) c.in-None.is (c.in_ok-at.ensures.told (codes_of s) (stand_of s) (inside_is s c.is_empty.result c.is_empty.ensures.value)) in
    let same = ap (λ f. cond s.over closed (faulted f)) c.at-unended.ensures.answer in
    let t = stay_by s _ _ c.conclude.ensures.answer (idle_coming s small c.in_default.is ∙ h.0) (h.1 ∙ sym same) in
    record { answer = said s _ small t; left = kept s _ small t; ending = refl; taken = count s _ small t; name = t.latest; code = t.code }
