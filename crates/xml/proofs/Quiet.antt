-- What an item tells: nothing where it is quiet, and else what the markup there tells. Assumes nothing.
use Rattle.std.proofs.Common.{◌≡◌, ℕ, ◌+◌, ◌-◌, ◌<◌, ◌≤◌, Bool, true, false, cond, not, eqb, List, [], ◌∷◌, ◌++◌, length, get_or, drop, Ok, Err, Result, sym, refl, ap, ◌∙◌, subst, ⊎_elim, arith, length-drop}
use Rattle.std.specs.List.{prefix_len}
use Rattle.std.proofs.lemmas.List.{drop-drop, drop_more, get_or-drop, get_or_past}
use Rattle.std.proofs.lemmas.List.Sums.{prefix_len-le-length}
use Rattle.std.proofs.lemmas.Bool.{cases_lt, cond-true, cond-false, eqb-true}
use Rattle.vocabulary.specs.declared.faults.Fault.{Fault}
use Rattle.vocabulary.specs.declared.faults.Question.TheVariants.{ByteOutsideRoot}
use Rattle.vocabulary.specs.Faults.{fault}
use Rattle.vocabulary.specs.Names.{is_name_byte, name_size}
use Rattle.message.specs.declared.events.Event.{Event}
use Rattle.message.specs.Sources.{Ending, faulted}
use Rattle.markup.specs.Bytes.{name_start, white}
use Rattle.markup.specs.Grammar.{opening, empty, closing, comment, instruction}
use Rattle.markup.specs.Readings.{Stand, between, Step, is_empty, refuse, step, texted, events_from, ending_from}
use Rattle.markup.specs.Runs.{is_text}
use Rattle.markup.specs.Tags.{at_open, Scan, cut_short, ends, begins_none, misfits, scan_from}
use Rattle.markup.specs.Tellings.{events_by, ending_by}
use Rattle.markup.proofs.Bounds.{Reaches, reaches, Comes, quiet_kind, quiet_comes}
use Rattle.markup.proofs.Telling.{stopped_events, stopped_ending, events_run, ending_run, text_events_lem, text_ending_lem}
use Rattle.xml.specs.declared.items.Piece.{Piece}
use Rattle.xml.specs.declared.items.Piece.TheVariants.{Quiet, Start, End}
use Rattle.xml.specs.Items.{piece_by, piece_of, text_of, item_of}

-- what is told from the place n on, where the reading stands so
abbrev pub events_in : List (List ℕ) → Stand → List ℕ → ℕ → List Event
events_in voc st m n = events_from voc (between st) n (drop n m)

abbrev pub ending_in : List (List ℕ) → Stand → List ℕ → ℕ → Ending
ending_in voc st m n = ending_from voc (between st) n (drop n m)

abbrev pub Told : List (List ℕ) → Stand → List ℕ → ℕ → Result Piece Fault → Type 0
Told voc st m n (Err f) = (events_in voc st m n ≡ []) × (ending_in voc st m n ≡ faulted f)
Told voc st m n (Ok (Quiet q)) = (events_in voc st m n ≡ events_in voc st m q) × (ending_in voc st m n ≡ ending_in voc st m q)
Told voc st m n (Ok Start) = Unit {0}
Told voc st m n (Ok End) = Unit {0}

-- where an item ends, and what a tag begins with
abbrev pub Facts : List ℕ → ℕ → Result Piece Fault → Type 0
Facts m n (Err f) = Unit {0}
Facts m n (Ok (Quiet q)) = (n < q) × (q ≤ length m)
Facts m n (Ok Start) = (get_or m n 0 ≡ 60) × (n + 1 ≤ length m) × (0 < name_size (drop (n + 1) m))
Facts m n (Ok End) = (get_or m n 0 ≡ 60) × (n + 2 ≤ length m) × (drop (n + 1) m ≡ 47 ∷ drop (n + 2) m)

never : {X : Type 0} → ◌≡◌ {A = Bool} false true → X
never e = absurd cc

-- markup, by how it goes on behind its `<`
module _ (voc : List (List ℕ)) (st : Stand) (m : List ℕ) (n : ℕ) where
  told_by : (x : Scan) → Comes quiet_kind x → events_in voc st m n ≡ events_by voc st n [] (n + 1) (drop (n + 1) m) x → ending_in voc st m n ≡ ending_by voc st n [] (n + 1) (drop (n + 1) m) x → Told voc st m n (piece_by n x)
  told_by cut_short h a e = (a, e)
  told_by (ends opening c) h a e = never h
  told_by (ends empty c) h a e = never h
  told_by (ends closing c) h a e = never h
  told_by (ends comment c) h a e =
      let d = drop-drop c (n + 1) m in
      (a ∙ ap (events_from voc (between st) (n + 1 + c)) d, e ∙ ap (ending_from voc (between st) (n + 1 + c)) d)
  told_by (ends instruction c) h a e =
      let d = drop-drop c (n + 1) m in
      (a ∙ ap (events_from voc (between st) (n + 1 + c)) d, e ∙ ap (ending_from voc (between st) (n + 1 + c)) d)
  told_by begins_none h a e = (a, e)
  told_by (misfits c) h a e = (a, e)

facts_by : (m : List ℕ) (n : ℕ) (x : Scan) → Reaches (length m - (n + 1)) x → Facts m n (piece_by n x)
facts_by m n cut_short h = tt
facts_by m n (ends k c) h = (omega arith, omega arith)
facts_by m n begins_none h = tt
facts_by m n (misfits c) h = tt

-- the first byte of a name
some_name : (s : List ℕ) → name_start (get_or s 0 0) ≡ true → 0 < name_size s
unfolding name_start
some_name [] h = never h
some_name (b ∷ s) h = let e = cond-true _ (1 + prefix_len is_name_byte s) 0 h in omega arith

begun : (m : List ℕ) (n : ℕ) → eqb (get_or (drop (n + 1) m) 0 0) 47 ≡ true → (n + 2 ≤ length m) × (drop (n + 1) m ≡ 47 ∷ drop (n + 2) m)
begun m n h =
    let e = eqb-true (get_or (drop (n + 1) m) 0 0) 47 h in
    let at : get_or m (n + 1) 0 ≡ 47 = (let z : n + 1 ≡ n + 1 + 0 = omega arith in ap (λ i. get_or m i 0) z ∙ sym (get_or-drop (n + 1) m 0 0) ∙ e) in
    let long : n + 1 < length m = ⊎_elim (λ l. l) (λ l. absurd (let z = get_or_past m (n + 1) 0 l in omega arith)) (cases_lt (n + 1) (length m)) in
    let two : n + 1 + 1 ≡ n + 2 = omega arith in
    (omega arith, drop_more m (n + 1) 0 long ∙ (λ i. at i ∷ drop (two i) m))

module _ (m : List ℕ) (n : ℕ) (lt : n < length m) where
  module _ (voc : List (List ℕ)) (st : Stand) where
    first : drop n m ≡ get_or m n 0 ∷ drop (n + 1) m
    first = drop_more m n 0 lt

    -- a `<` begins markup
    pub angle_events : get_or m n 0 ≡ 60 → events_in voc st m n ≡ events_by voc st n [] (n + 1) (drop (n + 1) m) (scan_from at_open (drop (n + 1) m))
    angle_events e =
        ap (events_from voc (between st) n) (first ∙ ap (λ b. b ∷ drop (n + 1) m) e)
        ∙ events_run voc st n at_open [] (n + 1) (drop (n + 1) m)

    pub angle_ending : get_or m n 0 ≡ 60 → ending_in voc st m n ≡ ending_by voc st n [] (n + 1) (drop (n + 1) m) (scan_from at_open (drop (n + 1) m))
    angle_ending e =
        ap (ending_from voc (between st) n) (first ∙ ap (λ b. b ∷ drop (n + 1) m) e)
        ∙ ending_run voc st n at_open [] (n + 1) (drop (n + 1) m)

    -- one byte of text
    text_step : eqb (get_or m n 0) 60 ≡ false → step voc (between st) n (get_or m n 0) ≡ texted st n (get_or m n 0)
    text_step h = cond-false _ _ _ h

    byte_events : (s : Step) → step voc (between st) n (get_or m n 0) ≡ s → events_in voc st m n ≡ s.told ++ events_from voc s.next (n + 1) (drop (n + 1) m)
    byte_events s e = ap (events_from voc (between st) n) first ∙ ap (λ (s : Step). s.told ++ events_from voc s.next (n + 1) (drop (n + 1) m)) e

    byte_ending : (s : Step) → step voc (between st) n (get_or m n 0) ≡ s → ending_in voc st m n ≡ ending_from voc s.next (n + 1) (drop (n + 1) m)
    byte_ending s e = ap (ending_from voc (between st) n) first ∙ ap (λ (s : Step). ending_from voc s.next (n + 1) (drop (n + 1) m)) e

    white_told : eqb (get_or m n 0) 60 ≡ false → is_empty st.names ≡ true → (w : Bool) → white (get_or m n 0) ≡ w → Told voc st m n (cond w (Ok (Quiet (n + 1))) (Err (fault ByteOutsideRoot n)))
    white_told h none true g = let e = text_step h ∙ cond-true _ _ _ none ∙ cond-true _ _ _ g in (byte_events _ e, byte_ending _ e)
    white_told h none false g =
        let e = text_step h ∙ cond-true _ _ _ none ∙ cond-false _ _ _ g in
        (byte_events (refuse ByteOutsideRoot n) e ∙ stopped_events voc (fault ByteOutsideRoot n) (n + 1) (drop (n + 1) m), byte_ending (refuse ByteOutsideRoot n) e ∙ stopped_ending voc (fault ByteOutsideRoot n) (n + 1) (drop (n + 1) m))

    text_told : (inside : Bool) → eqb (get_or m n 0) 60 ≡ false → is_empty st.names ≡ not inside → Told voc st m n (text_of inside n (drop n m))
    text_told true h some =
        let k = prefix_len is_text (drop n m) in
        let d = drop-drop k n m in (
          text_events_lem voc st some n (drop n m) ∙ ap (events_from voc (between st) (n + k)) d,
          text_ending_lem voc st some n (drop n m) ∙ ap (ending_from voc (between st) (n + k)) d,
        )
    text_told false h none =
        let e : get_or (drop n m) 0 0 ≡ get_or m n 0 = ap (λ l. get_or l 0 0) first in
        subst (λ b. Told voc st m n (cond (white b) (Ok (Quiet (n + 1))) (Err (fault ByteOutsideRoot n)))) (sym e) (white_told h none (white (get_or m n 0)) refl)

    piece_told : eqb (get_or m n 0) 60 ≡ true → (p q : Bool) → eqb (get_or (drop (n + 1) m) 0 0) 47 ≡ p → name_start (get_or (drop (n + 1) m) 0 0) ≡ q → Told voc st m n (cond p (Ok End) (cond q (Ok Start) (piece_by n (scan_from at_open (drop (n + 1) m)))))
    piece_told h true q a b = tt
    piece_told h false true a b = tt
    piece_told h false false a b =
        let e = eqb-true (get_or m n 0) 60 h in
        told_by voc st m n (scan_from at_open (drop (n + 1) m)) (quiet_comes (drop (n + 1) m) a b) (angle_events e) (angle_ending e)

    item_told : (inside : Bool) → is_empty st.names ≡ not inside → (p : Bool) → eqb (get_or m n 0) 60 ≡ p → Told voc st m n (cond p (piece_of n (drop (n + 1) m)) (text_of inside n (drop n m)))
    item_told inside is true h = piece_told h _ _ refl refl
    item_told inside is false h = text_told inside h is

  item_is : (inside : Bool) → item_of inside n (drop n m) ≡ cond (eqb (get_or m n 0) 60) (piece_of n (drop (n + 1) m)) (text_of inside n (drop n m))
  item_is inside =
      let f = drop_more m n 0 lt in
      λ i. cond (eqb (get_or (f i) 0 0) 60) (piece_of n (drop 1 (f i))) (text_of inside n (drop n m))

  pub told : (voc : List (List ℕ)) (st : Stand) (inside : Bool) → is_empty st.names ≡ not inside → Told voc st m n (item_of inside n (drop n m))
  told voc st inside is = subst (Told voc st m n) (sym (item_is inside)) (item_told voc st inside is _ refl)

  piece_facts : eqb (get_or m n 0) 60 ≡ true → (p q : Bool) → eqb (get_or (drop (n + 1) m) 0 0) 47 ≡ p → name_start (get_or (drop (n + 1) m) 0 0) ≡ q → Facts m n (cond p (Ok End) (cond q (Ok Start) (piece_by n (scan_from at_open (drop (n + 1) m)))))
  piece_facts h true q a b = let g = begun m n a in (eqb-true (get_or m n 0) 60 h, g.0, g.1)
  piece_facts h false true a b = (eqb-true (get_or m n 0) 60 h, omega arith, some_name (drop (n + 1) m) b)
  piece_facts h false false a b = facts_by m n (scan_from at_open (drop (n + 1) m)) (subst (λ l. Reaches l (scan_from at_open (drop (n + 1) m))) (length-drop (n + 1) m) (reaches at_open (drop (n + 1) m)))

  white_facts : (w : Bool) → Facts m n (cond w (Ok (Quiet (n + 1))) (Err (fault ByteOutsideRoot n)))
  white_facts true = (omega arith, omega arith)
  white_facts false = tt

  text_facts : (inside : Bool) → eqb (get_or m n 0) 60 ≡ false → Facts m n (text_of inside n (drop n m))
  text_facts true h =
      let f = drop_more m n 0 lt in
      let e : prefix_len is_text (drop n m) ≡ 1 + prefix_len is_text (drop (n + 1) m) = ap (prefix_len is_text) f ∙ cond-true _ _ _ (ap not h) in
      let l = prefix_len-le-length is_text (drop n m) in
      let d = length-drop n m in
      (omega arith, omega arith)
  text_facts false h = white_facts (white (get_or (drop n m) 0 0))

  item_facts : (inside : Bool) (p : Bool) → eqb (get_or m n 0) 60 ≡ p → Facts m n (cond p (piece_of n (drop (n + 1) m)) (text_of inside n (drop n m)))
  item_facts inside true h = piece_facts h _ _ refl refl
  item_facts inside false h = text_facts inside h

  pub facts : (inside : Bool) → Facts m n (item_of inside n (drop n m))
  facts inside = subst (Facts m n) (sym (item_is inside)) (item_facts inside _ refl)
