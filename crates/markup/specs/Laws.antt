-- What the bytes of a message tell is well formed. Assumes nothing.
use Rattle.std.specs.Prelude.{◌≡◌, ℕ, zero, suc, ◌+◌, ◌<◌, ◌≤◌, Bool, true, false, cond, List, [], ◌∷◌, ◌++◌, length, take, Some, Option, ◌==◌, nat_le, refl}
use Rattle.std.proofs.Common.{ap, arith, add-one, leb-true, leb-false}
use Rattle.std.specs.Option.{unwrap_or}
use Rattle.std.specs.Str.{bytes_eq}
use Rattle.vocabulary.specs.declared.faults.Fault.{Fault}
use Rattle.vocabulary.specs.declared.faults.Question.{Question}
use Rattle.vocabulary.specs.declared.faults.Question.TheVariants.{ByteOutsideRoot}
use Rattle.vocabulary.specs.Limits.{most_names, most_open}
use Rattle.vocabulary.specs.Names.{code_up_to}
use Rattle.message.specs.declared.events.Event.{Event}
use Rattle.message.specs.declared.events.Event.TheVariants.{Start, End}
use Rattle.message.specs.Sources.{Ending, closed, faulted, Nested, Coded, depth, Wellformed}
use Rattle.markup.specs.Bytes.{open_angle, white}
use Rattle.markup.specs.Grammar.{Kind, opening, empty, closing, comment, instruction}
use Rattle.markup.specs.Tags.{State, at_open, Move, on, ended, misplaced, misfit, after, name_in}
use Rattle.markup.specs.Documents.{code_or_0}
use Rattle.markup.specs.Readings.{most_text, Stand, Status, between, behind, stopped, Step, silent, refuse, is_empty, left, started, closed_by, acted, moved, texted, events_from, ending_from, text_events, text_ending}

-- a code is at most the number of names that were looked at
code_by : (b : Bool) (k : ℕ) (o : Option ℕ) → unwrap_or o 0 ≤ k → unwrap_or (cond b (Some (suc k)) o) 0 ≤ suc k
code_by true k o h = omega arith
code_by false k o h = omega arith

code_up_to_lem : (voc : List (List ℕ)) (s : List ℕ) (k : ℕ) → unwrap_or (code_up_to voc s k) 0 ≤ k
code_up_to_lem voc s zero = omega arith
code_up_to_lem voc s (suc k) = code_by _ k (code_up_to voc s k) (code_up_to_lem voc s k)

-- what still comes keeps this, where d elements are open, o says whether the root has ended, and at most n events come
record Rest (n d : ℕ) (o : Bool) (es : List Event) (e : Ending) : Type 0 where
  few : length es ≤ n
  nested : Nested d es
  coded : Coded es
  none : o ≡ true → es ≡ []
  some : o ≡ false → e ≡ closed → 0 < length es
  shut : e ≡ closed → depth d es ≡ 0
  inside : (k : ℕ) → 0 < k + d → k < length es → 0 < depth d (take k es)

more : {m n d : ℕ} {o : Bool} {es : List Event} {e : Ending} → m ≤ n → Rest m d o es e → Rest n d o es e
more h r = let l = r.few in record { few = omega arith; nested = r.nested; coded = r.coded; none = r.none; some = r.some; shut = r.shut; inside = r.inside }

-- nothing comes after a fault
fault_rest : (n d : ℕ) (o : Bool) (f : Fault) → Rest n d o [] (faulted f)
fault_rest n d o f = record {
  few = omega arith;
  nested = tt;
  coded = tt;
  none = λ _. refl;
  some = λ _ h. absurd cc;
  shut = λ h. absurd cc;
  inside = λ k _ l. absurd (omega arith);
}

halted : (voc : List (List ℕ)) (f : Fault) (p : ℕ) (bs : List ℕ) (n d : ℕ) (o : Bool) → Rest n d o (events_from voc (stopped f) p bs) (ending_from voc (stopped f) p bs)
halted voc f p [] n d o = fault_rest n d o f
halted voc f p (b ∷ bs) n d o = halted voc f (p + 1) bs n d o

-- nor after the end of the text, which closes only with none open
ended_rest : (n d : ℕ) (o : Bool) (f : Fault) → (o ≡ true → d ≡ 0) → Rest n d o [] (cond o closed (faulted f))
ended_rest n d true f t = record {
  few = omega arith;
  nested = tt;
  coded = tt;
  none = λ _. refl;
  some = λ h. absurd cc;
  shut = λ _. t refl;
  inside = λ k _ l. absurd (omega arith);
}
ended_rest n d false f t = fault_rest n d false f

-- a start comes before
start_inside : (d c p : ℕ) (es : List Event) → ((k : ℕ) → 0 < k + (d + 1) → k < length es → 0 < depth (d + 1) (take k es)) → (k : ℕ) → 0 < k + d → k < length (Start c p ∷ es) → 0 < depth d (take k (Start c p ∷ es))
start_inside d c p es h zero s l = omega arith
start_inside d c p es h (suc k) s l = h k (omega arith) (omega arith)

starts : {n d c p : ℕ} {o : Bool} {es : List Event} {e : Ending} → o ≡ false → d < most_open → c ≤ most_names → Rest n (suc d) false es e → Rest (n + 1) d o (Start c p ∷ es) e
starts {n} {d} {c} {p} {o} {es} {e} f s h q =
    let r : Rest n (d + 1) false es e = rw add-one q in
    let l = r.few in
    record {
      few = omega arith;
      nested = (s, r.nested);
      coded = (h, r.coded);
      none = λ t. absurd cc;
      some = λ _ _. omega arith;
      shut = r.shut;
      inside = start_inside d c p es r.inside;
    }

-- an end comes before, of the root if none stay open
end_inside_by : (d : ℕ) (es : List Event) → (d ≡ 0 → es ≡ []) → ((k : ℕ) → 0 < k + d → k < length es → 0 < depth d (take k es)) → (k : ℕ) → k < length es → 0 < depth d (take k es)
end_inside_by zero es z h k l = absurd (omega (arith, ap length (z refl)))
end_inside_by (suc d) es z h k l = h k (omega arith) l

end_inside : (d p : ℕ) (es : List Event) → (d ≡ 0 → es ≡ []) → ((k : ℕ) → 0 < k + d → k < length es → 0 < depth d (take k es)) → (k : ℕ) → k < length (End p ∷ es) → 0 < depth (suc d) (take k (End p ∷ es))
end_inside d p es z h zero l = omega arith
end_inside d p es z h (suc k) l = end_inside_by d es z h k (omega arith)

ends : {n d p : ℕ} {o b : Bool} {es : List Event} {e : Ending} → o ≡ false → (d ≡ 0 → b ≡ true) → Rest n d b es e → Rest (n + 1) (suc d) o (End p ∷ es) e
ends {d = d} {p = p} {es = es} f z r =
    let l = r.few in
    record {
      few = omega arith;
      nested = (omega arith, r.nested);
      coded = r.coded;
      none = λ t. absurd cc;
      some = λ _ _. omega arith;
      shut = r.shut;
      inside = λ k _ l. end_inside d p es (λ h. r.none (z h)) r.inside k l;
    }

-- once the root has ended none is open
abbrev Tidy : Stand → Type 0
Tidy st = st.over ≡ true → length st.names ≡ 0

empty_tidy : (ns : List (List ℕ)) → is_empty ns ≡ true → length ns ≡ 0
empty_tidy [] h = refl
empty_tidy (m ∷ ms) h = absurd cc

empty_none : (ns : List (List ℕ)) → length ns ≡ 0 → is_empty ns ≡ true
empty_none [] h = refl
empty_none (m ∷ ms) h = absurd (omega arith)

-- what is told from between two items, and from behind a `<`
abbrev Between : List (List ℕ) → ℕ → List ℕ → Type 0
Between voc p bs = (st : Stand) → Tidy st → Rest (length bs) (length st.names) st.over (events_from voc (between st) p bs) (ending_from voc (between st) p bs)

abbrev Behind : List (List ℕ) → ℕ → List ℕ → Type 0
Behind voc p bs = (st : Stand) (q : ℕ) (s : State) (xs : List ℕ) → Tidy st → Rest (length bs + 1) (length st.names) st.over (events_from voc (behind st q s xs) p bs) (ending_from voc (behind st q s xs) p bs)

-- a step, with the bytes after it, told from st
abbrev Told : List (List ℕ) → ℕ → List ℕ → ℕ → Stand → Step → Type 0
Told voc p bs n st x = Rest n (length st.names) st.over (x.told ++ events_from voc x.next p bs) (ending_from voc x.next p bs)

module _ (voc : List (List ℕ)) (fits : length voc ≤ most_names) (p : ℕ) (bs : List ℕ) (ih : Between voc p bs) (jh : Behind voc p bs) where
  refused : {n : ℕ} (st : Stand) (q : Question) (a : ℕ) → Told voc p bs n st (refuse q a)
  refused st q a = halted voc _ p bs _ (length st.names) st.over

  unless : {n : ℕ} (b : Bool) (st : Stand) (q : Question) (a : ℕ) (x : Step) → (b ≡ false → Told voc p bs n st x) → Told voc p bs n st (cond b (refuse q a) x)
  unless true st q a x h = refused st q a
  unless false st q a x h = h refl

  only : {n : ℕ} (b : Bool) (st : Stand) (q : Question) (a : ℕ) (x : Step) → Told voc p bs n st x → Told voc p bs n st (cond b x (refuse q a))
  only true st q a x h = h
  only false st q a x h = refused st q a

  stays : {n : ℕ} (st : Stand) → length bs ≤ n → Tidy st → Told voc p bs n st (silent (between st))
  stays st h t = more h (ih st t)

  lefts : (ns : List (List ℕ)) → Rest (length bs) (length ns) (is_empty ns) (events_from voc (left ns) p bs) (ending_from voc (left ns) p bs)
  lefts ns = ih (record { names = ns; over = is_empty ns }) (empty_tidy ns)

  starteds : {n : ℕ} (st : Stand) (a : ℕ) (es : List Event) (next : Status) → (st.over ≡ false → length st.names < most_open → Told voc p bs n st (record { told = es; next = next })) → Told voc p bs n st (started st a es next)
  starteds st a es next h = unless _ st _ a _ (λ o. unless _ st _ a _ (λ l. h o (leb-false 32 (length st.names) l)))

  codes : (n : List ℕ) → code_or_0 voc n ≤ most_names
  codes n = let k = code_up_to_lem voc n (length voc) in omega arith

  closeds : (ns : List (List ℕ)) (o : Bool) (a : ℕ) (n : List ℕ) → (o ≡ true → length ns ≡ 0) → Told voc p bs (length bs + 2) (record { names = ns; over = o }) (closed_by ns a n)
  closeds [] o a n t = refused (record { names = []; over = o }) _ a
  closeds (m ∷ ms) true a n t = absurd (omega (arith, t refl))
  closeds (m ∷ ms) false a n t = only (bytes_eq m n) (record { names = m ∷ ms; over = false }) _ a _ (more (omega arith) (ends refl (empty_none ms) (lefts ms)))

  acts : (st : Stand) (a : ℕ) (k : Kind) (n : List ℕ) → Tidy st → Told voc p bs (length bs + 2) st (acted voc st a k n)
  acts st a opening n t =
      starteds st a _ _ (λ o l.
      let r = ih (record { names = n ∷ st.names; over = false }) (λ h. absurd cc) in
      more (omega arith) (starts o l (codes n) r))
  acts st a empty n t =
      starteds st a _ _ (λ o l. more (omega arith) (starts o l (codes n) (ends refl (empty_none st.names) (lefts st.names))))
  acts st a closing n t = closeds st.names st.over a n t
  acts st a comment n t = stays st (omega arith) t
  acts st a instruction n t = stays st (omega arith) t

  moves : (st : Stand) (a c : ℕ) (xs : List ℕ) (m : Move) → Tidy st → Told voc p bs (length bs + 2) st (moved voc st a c xs m)
  moves st a c xs (on s) t = more (omega arith) (jh st a s xs t)
  moves st a c xs (ended k) t = acts st a k (name_in k xs) t
  moves st a c xs misplaced t = refused st _ a
  moves st a c xs misfit t = refused st _ c

  texts : (st : Stand) (c : ℕ) (e w : Bool) → Tidy st → Told voc p bs (length bs + 1) st (cond e (cond w (silent (between st)) (refuse ByteOutsideRoot c)) (silent (between st)))
  texts st c true w t = only w st _ c _ (stays st (omega arith) t)
  texts st c false w t = stays st (omega arith) t

  betweens : (st : Stand) (c b : ℕ) (o : Bool) → Tidy st → Told voc p bs (length bs + 1) st (cond o (silent (behind st c at_open [])) (texted st c b))
  betweens st c b true t = jh st c at_open [] t
  betweens st c b false t = texts st c (is_empty st.names) (white b) t

mutual
  from_between : (voc : List (List ℕ)) → length voc ≤ most_names → (p : ℕ) (bs : List ℕ) → Between voc p bs
  from_between voc f p [] st t = ended_rest _ (length st.names) st.over _ t
  from_between voc f p (b ∷ bs) st t = more (omega arith) (betweens voc f (p + 1) bs (from_between voc f (p + 1) bs) (from_behind voc f (p + 1) bs) st p b (b == open_angle) t)

  from_behind : (voc : List (List ℕ)) → length voc ≤ most_names → (p : ℕ) (bs : List ℕ) → Behind voc p bs
  from_behind voc f p [] st q s xs t = fault_rest _ _ _ _
  from_behind voc f p (b ∷ bs) st q s xs t = more (omega arith) (moves voc f (p + 1) bs (from_between voc f (p + 1) bs) (from_behind voc f (p + 1) bs) st q p (xs ++ b ∷ []) (after s b) t)

sound_by : (b : Bool) (es : List Event) (e : Ending) (f : Fault) → (b ≡ true → Wellformed es e) → Wellformed (cond b es []) (cond b e (faulted f))
sound_by true es e f h = h refl
sound_by false es e f h = record { few = omega arith; nested = tt; coded = tt; whole = λ k. absurd cc }

pub sound : (voc : List (List ℕ)) (m : List ℕ) → length voc ≤ most_names → Wellformed (text_events voc m) (text_ending voc m)
sound voc m f =
    sound_by (nat_le (length m) most_text) _ _ _ (λ b.
    let l = leb-true (length m) 1048576 b in
    let r = from_between voc f 0 m (record { names = []; over = false }) (λ _. refl) in
    let n = r.few in
    record {
      few = omega arith;
      nested = r.nested;
      coded = r.coded;
      whole = λ e. record { some = r.some refl e; shut = r.shut e; inside = λ k s. r.inside k (omega arith) };
    })
