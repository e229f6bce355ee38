-- A turn of the reader over a tag: the tag tells its event, or the fault that ends the message. Assumes nothing.
use Rattle.std.proofs.Common.{◌≡◌, ℕ, ◌+◌, ◌<◌, ◌≤◌, Bool, true, false, cond, not, eqb, leb, List, [], ◌∷◌, ◌++◌, length, drop, Some, None, Ok, Err, Option, Result, sym, refl, ap, ◌∙◌, subst, arith}
use Rattle.std.specs.Option.{option_map}
use Rattle.std.specs.Str.{bytes_eq}
use Rattle.std.proofs.lemmas.List.{drop-drop}
use Rattle.std.proofs.lemmas.Bool.{cond-true, le-leb, leb-false}
use Rattle.vocabulary.specs.declared.faults.Fault.{Fault}
use Rattle.vocabulary.specs.declared.faults.Question.TheVariants.{TagAfterRoot, TagTooDeep, EndTagUnmet}
use Rattle.vocabulary.specs.Faults.{fault}
use Rattle.vocabulary.specs.Limits.{most_open}
use Rattle.message.specs.declared.events.Event.{Event}
use Rattle.message.specs.declared.events.Event.TheVariants.{Start, End}
use Rattle.message.specs.Sources.{Ending, closed, faulted, last_told, told, rest, counted}
use Rattle.markup.specs.Documents.{code_or_0}
use Rattle.markup.specs.Grammar.{Kind, opening, empty, closing}
use Rattle.markup.specs.Readings.{most_text, Stand, Status, between, stopped, Step, is_empty, left, started, closed_by, acted, refuse, events_from, ending_from}
use Rattle.markup.specs.Runs.{kind_of}
use Rattle.markup.specs.declared.tags.TagKind.{TagKind}
use Rattle.markup.specs.declared.tags.TagKind.TheVariants.{Opening, Empty, Closing}
use Rattle.markup.specs.Tags.{at_open, Scan, cut_short, ends, begins_none, misfits, scan_from}
use Rattle.markup.specs.Tellings.{events_by, ending_by}
use Rattle.markup.proofs.Telling.{stopped_events, stopped_ending}
use Rattle.xml.specs.declared.items.Span.{Span}
use Rattle.xml.specs.declared.tags.Tagged.{Tagged}
use Rattle.xml.specs.declared.texts.TextReader.{TextReader}
use Rattle.xml.specs.Items.{cut}
use Rattle.xml.specs.Opened.{admitted, met, After}
use Rattle.xml.specs.Seeks.{Onwards}
use Rattle.xml.specs.Tags.{fault_by, TagIs}
use Rattle.xml.specs.Texts.{Answer, bytes_of, codes_of, coming_at, final_at, coming_of, final_of, events_of, ending_of, latest_after, latest_of, name_behind, open_names, spelt, stand_at, stand_of, CodeOf, Turn}
use Rattle.rows.specs.Rows.{items_of}
use Rattle.xml.proofs.Stack.{none_open}

abbrev pub Tells : List Event → Ending → List Event → Ending → Type 0
Tells es e es' e' = (es ≡ es') × (e ≡ e')

-- nothing more is told, and the message ends with this fault
abbrev pub Stops : List Event → Ending → Fault → Type 0
Stops es e f = (es ≡ []) × (e ≡ faulted f)

pub stay : (s : TextReader) (f : Fault) → Stops (coming_of s) (final_of s) f → Turn s (Err f) s
stay s f h =
    record {
      answer = sym (ap (λ es. told es (final_of s)) h.0 ∙ ap last_told h.1);
      left = h.0 ∙ sym (ap rest h.0);
      ending = refl;
      taken = sym (ap (λ es. counted es s.taken) h.0);
      message = refl;
      latest = refl;
      code = tt;
    }

pub go : (s s' : TextReader) (x : Event) → coming_of s ≡ x ∷ coming_of s' → final_of s ≡ final_of s' → s'.taken ≡ s.taken + 1 → bytes_of s' ≡ bytes_of s → latest_of s' ≡ latest_after (bytes_of s) (Ok (Some x)) (latest_of s) → CodeOf (codes_of s) (bytes_of s) (Ok (Some x)) → Turn s (Ok (Some x)) s'
go s s' x a e n b l c =
    record {
      answer = sym (ap (λ es. told es (final_of s)) a);
      left = sym (ap rest a);
      ending = sym e;
      taken = n ∙ sym (ap (λ es. counted es s.taken) a);
      message = b;
      latest = l;
      code = c;
    }

-- markup that has a fault
module _ (voc : List (List ℕ)) (st : Stand) (p : ℕ) (bs : List ℕ) (f : Fault) where
  faulty : (x : Scan) → fault_by p x ≡ Some f → Stops (events_by voc st p [] (p + 1) bs x) (ending_by voc st p [] (p + 1) bs x) f
  faulty cut_short h = (refl, (let z : fault _ p ≡ f = some_same h in ap faulted z))
    where
      some_same : {g : Fault} → ◌≡◌ {A = Option Fault} (Some g) (Some f) → g ≡ f
      some_same h = cc
  faulty (ends k c) h = absurd cc
  faulty begins_none h = (refl, (let z : fault _ p ≡ f = some_same h in ap faulted z))
    where
      some_same : {g : Fault} → ◌≡◌ {A = Option Fault} (Some g) (Some f) → g ≡ f
      some_same h = cc
  faulty (misfits c) h = (refl, (let z : fault _ (p + 1 + c) ≡ f = some_same h in ap faulted z))
    where
      some_same : {g : Fault} → ◌≡◌ {A = Option Fault} (Some g) (Some f) → g ≡ f
      some_same h = cc

  -- a step that stops
  stops_step : (x : Step) (n : ℕ) (cs : List ℕ) → x ≡ record { told = []; next = stopped f } → Stops (x.told ++ events_from voc x.next n cs) (ending_from voc x.next n cs) f
  stops_step x n cs e = (
    ap (λ (y : Step). y.told ++ events_from voc y.next n cs) e ∙ stopped_events voc f n cs,
    ap (λ (y : Step). ending_from voc y.next n cs) e ∙ stopped_ending voc f n cs,
  )

-- where the reader stands before a tag
module _ (s : TextReader) (p : ℕ) (idle : s.pending ≡ None) (onwards : Onwards (codes_of s) (stand_of s) (bytes_of s) s.place p) where
  abbrev scan : Scan
  scan = scan_from at_open (drop (p + 1) (bytes_of s))

  coming_is : coming_of s ≡ events_by (codes_of s) (stand_of s) p [] (p + 1) (drop (p + 1) (bytes_of s)) scan
  coming_is = ap (λ q. coming_at (codes_of s) (bytes_of s) q (stand_of s) s.place) idle ∙ onwards.0

  pub at_fault : (f : Fault) → fault_by p scan ≡ Some f → Turn s (Err f) s
  at_fault f h =
      let t = faulty (codes_of s) (stand_of s) p (drop (p + 1) (bytes_of s)) f scan h in
      stay s f (coming_is ∙ t.0, onwards.1 ∙ t.1)

  -- a tag that has ended
  module _ (k : Kind) (tag : Tagged) (is : TagIs (bytes_of s) p k tag) where
    abbrev step : Step
    step = acted (codes_of s) (stand_of s) p k (cut (bytes_of s) tag.name)

    abbrev next : ℕ
    next = p + 1 + tag.len

    tag_events : coming_of s ≡ step.told ++ events_from (codes_of s) step.next next (drop next (bytes_of s))
    tag_events =
        coming_is
        ∙ ap (events_by (codes_of s) (stand_of s) p [] (p + 1) (drop (p + 1) (bytes_of s))) is.scan
        ∙ ap (λ n. (acted (codes_of s) (stand_of s) p k n).told ++ events_from (codes_of s) (acted (codes_of s) (stand_of s) p k n).next next (drop tag.len (drop (p + 1) (bytes_of s)))) (sym is.spelt)
        ∙ ap (λ l. step.told ++ events_from (codes_of s) step.next next l) (drop-drop tag.len (p + 1) (bytes_of s))

    tag_ending : final_of s ≡ ending_from (codes_of s) step.next next (drop next (bytes_of s))
    tag_ending =
        onwards.1
        ∙ ap (ending_by (codes_of s) (stand_of s) p [] (p + 1) (drop (p + 1) (bytes_of s))) is.scan
        ∙ ap (λ n. ending_from (codes_of s) (acted (codes_of s) (stand_of s) p k n).next next (drop tag.len (drop (p + 1) (bytes_of s)))) (sym is.spelt)
        ∙ ap (ending_from (codes_of s) step.next next) (drop-drop tag.len (p + 1) (bytes_of s))

    tag_stops : (f : Fault) → step ≡ record { told = []; next = stopped f } → Turn s (Err f) s
    tag_stops f e =
        let t = stops_step (codes_of s) (stand_of s) p [] f step next (drop next (bytes_of s)) e in
        stay s f (tag_events ∙ t.0, tag_ending ∙ t.1)

    tag_events_as : (x : Step) → step ≡ x → coming_of s ≡ x.told ++ events_from (codes_of s) x.next next (drop next (bytes_of s))
    tag_events_as x e = tag_events ∙ ap (λ (y : Step). y.told ++ events_from (codes_of s) y.next next (drop next (bytes_of s))) e

    tag_ending_as : (x : Step) → step ≡ x → final_of s ≡ ending_from (codes_of s) x.next next (drop next (bytes_of s))
    tag_ending_as x e = tag_ending ∙ ap (λ (y : Step). ending_from (codes_of s) y.next next (drop next (bytes_of s))) e

  -- the reader after it
  module _ (k : Kind) (tag : Tagged) (names : List (List ℕ)) (over : Bool) (q : Option ℕ) (x : Option Span) (s' : TextReader) (after : After s p tag names over q x s') where
    abbrev far : ℕ
    far = p + 1 + tag.len

    after_coming : coming_of s' ≡ coming_at (codes_of s) (bytes_of s) q (stand_at names over) far
    after_coming = λ i. coming_at (after.codes i) (after.bytes i) (after.owing i) (stand_at (after.stack i) (after.ended i)) (after.placed i)

    after_final : final_of s' ≡ final_at (codes_of s) (bytes_of s) (stand_at names over) far
    after_final = λ i. final_at (after.codes i) (after.bytes i) (stand_at (after.stack i) (after.ended i)) (after.placed i)

    after_latest : latest_of s' ≡ option_map (spelt (bytes_of s)) x
    after_latest = λ i. option_map (spelt (after.bytes i)) (after.last i)

abbrev Verdict : Type 0
Verdict = Result (Unit {0}) Fault

-- a start tag that is not admitted
ok_not : {X : Type 0} (f : Fault) → ◌≡◌ {A = Verdict} (Ok tt) (Err f) → X
ok_not f h = absurd cc

err_same : (f g : Fault) → ◌≡◌ {A = Verdict} (Err f) (Err g) → f ≡ g
err_same f g h = cc

module _ (st : Stand) (p : ℕ) (es : List Event) (next : Status) where
  by_depth : (o b : Bool) (f : Fault) → ◌≡◌ {A = Verdict} (cond o (Err (fault TagAfterRoot p)) (cond b (Err (fault TagTooDeep p)) (Ok tt))) (Err f) → cond o (refuse TagAfterRoot p) (cond b (refuse TagTooDeep p) (record { told = es; next = next })) ≡ record { told = []; next = stopped f }
  by_depth true b f h = ap (λ g. record { told = []; next = stopped g }) (err_same _ f h)
  by_depth false true f h = ap (λ g. record { told = []; next = stopped g }) (err_same _ f h)
  by_depth false false f h = ok_not f h

  refused : (f : Fault) → admitted st.over (length st.names) p ≡ Err f → started st p es next ≡ record { told = []; next = stopped f }
  refused f h = by_depth st.over (leb most_open (length st.names)) f h

module _ (s : TextReader) (p : ℕ) (idle : s.pending ≡ None) (onwards : Onwards (codes_of s) (stand_of s) (bytes_of s) s.place p) (tag : Tagged) where
  abbrev name : List ℕ
  name = cut (bytes_of s) tag.name

  abbrev names : List (List ℕ)
  names = open_names s

  pub not_admitted : (k : TagKind) (f : Fault) → (k ≡ Closing → ⊥) → TagIs (bytes_of s) p (kind_of k) tag → admitted s.over (length names) p ≡ Err f → Turn s (Err f) s
  not_admitted Opening f start is h = tag_stops s p idle onwards opening tag is f (refused (stand_of s) p _ _ f h)
  not_admitted Empty f start is h = tag_stops s p idle onwards empty tag is f (refused (stand_of s) p _ _ f h)
  not_admitted Closing f start is h = absurd (start refl)

  -- an end tag
  unmet_by : (ns : List (List ℕ)) (f : Fault) → met ns p name ≡ Err f → closed_by ns p name ≡ record { told = []; next = stopped f }
  unmet_by [] f h = ap (λ g. record { told = []; next = stopped g }) (err_same _ f h)
  unmet_by (x ∷ xs) f h = by_same (bytes_eq x name) h
    where
      by_same : (b : Bool) → ◌≡◌ {A = Verdict} (cond b (Ok tt) (Err (fault EndTagUnmet p))) (Err f) → cond b (record { told = End p ∷ []; next = left xs }) (refuse EndTagUnmet p) ≡ record { told = []; next = stopped f }
      by_same true h = ok_not f h
      by_same false h = ap (λ g. record { told = []; next = stopped g }) (err_same _ f h)

  met_by : (x : List ℕ) (xs : List (List ℕ)) → met (x ∷ xs) p name ≡ Ok tt → closed_by (x ∷ xs) p name ≡ record { told = End p ∷ []; next = left xs }
  met_by x xs h = by_same (bytes_eq x name) h
    where
      by_same : (b : Bool) → ◌≡◌ {A = Verdict} (cond b (Ok tt) (Err (fault EndTagUnmet p))) (Ok tt) → cond b (record { told = End p ∷ []; next = left xs }) (refuse EndTagUnmet p) ≡ record { told = End p ∷ []; next = left xs }
      by_same true h = refl
      by_same false h = ok_not _ (sym h)

  pub unmet : (f : Fault) → TagIs (bytes_of s) p closing tag → met names p name ≡ Err f → Turn s (Err f) s
  unmet f is h = tag_stops s p idle onwards closing tag is f (unmet_by names f h)

  met_first : (ns : List (List ℕ)) → met ns p name ≡ Ok tt → closed_by ns p name ≡ record { told = End p ∷ []; next = left (drop 1 ns) }
  met_first [] h = ok_not _ (sym h)
  met_first (x ∷ xs) h = met_by x xs h

  pub closed_by_lem : (s' : TextReader) → TagIs (bytes_of s) p closing tag → met names p name ≡ Ok tt → After s p tag (drop 1 names) (is_empty (drop 1 names)) None s.latest s' → Turn s (Ok (Some (End p))) s'
  closed_by_lem s' is h after =
      let e = met_first names h in
      go s s' (End p)
      (tag_events_as s p idle onwards closing tag is _ e ∙ ap (λ l. End p ∷ l) (sym (after_coming s p idle onwards closing tag _ _ _ _ s' after)))
      (tag_ending_as s p idle onwards closing tag is _ e ∙ sym (after_final s p idle onwards closing tag _ _ _ _ s' after))
      after.count after.bytes (after_latest s p idle onwards closing tag _ _ _ _ s' after) tt

-- nothing is left to tell
still_latest : (m : List ℕ) (x : Option (ℕ × List ℕ)) (e : Ending) → x ≡ latest_after m (last_told e) x
still_latest m x closed = refl
still_latest m x (faulted f) = refl

still_code : (voc : List (List ℕ)) (m : List ℕ) (e : Ending) → CodeOf voc m (last_told e)
still_code voc m closed = tt
still_code voc m (faulted f) = tt

pub stay_by : (s : TextReader) (r : Answer) (e : Ending) → r ≡ last_told e → coming_of s ≡ [] → final_of s ≡ e → Turn s r s
stay_by s r e a z h =
    record {
      answer = a ∙ sym (ap (λ es. told es (final_of s)) z ∙ ap last_told h);
      left = z ∙ sym (ap rest z);
      ending = refl;
      taken = sym (ap (λ es. counted es s.taken) z);
      message = refl;
      latest = still_latest (bytes_of s) (latest_of s) e ∙ ap (λ x. latest_after (bytes_of s) x (latest_of s)) (sym a);
      code = subst (CodeOf (codes_of s) (bytes_of s)) (sym a) (still_code (codes_of s) (bytes_of s) e);
    }

-- the same of a message that is not too long
module _ (s : TextReader) (small : length (bytes_of s) ≤ most_text) where
  pub events_are : events_of s ≡ coming_of s
  events_are = cond-true _ _ _ (le-leb (length (bytes_of s)) most_text small)

  pub ending_is : ending_of s ≡ final_of s
  ending_is = cond-true _ _ _ (le-leb (length (bytes_of s)) most_text small)

  pub idle_coming : s.pending ≡ None → coming_of s ≡ events_from (codes_of s) (between (stand_of s)) s.place (drop s.place (bytes_of s))
  idle_coming idle = ap (λ q. coming_at (codes_of s) (bytes_of s) q (stand_of s) s.place) idle

-- whether the reader stands inside the root
pub inside_is : (s : TextReader) (b : Bool) → b ≡ eqb (length (items_of s.spans)) 0 → is_empty (stand_of s).names ≡ not (not b)
inside_is s b e = none_open (bytes_of s) (items_of s.spans) ∙ sym e ∙ twice b
  where
    twice : (b : Bool) → b ≡ not (not b)
    twice true = refl
    twice false = refl
