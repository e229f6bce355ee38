-- Reading a vocabulary is right about what the text spells. Assumes nothing.
use Rattle.std.proofs.Common.{◌≡◌, ℕ, suc, ◌+◌, ◌<◌, ◌≤◌, Bool, true, false, cond, eqb, ltb, leb, List, [], ◌∷◌, ◌++◌, length, get_or, take, drop, is_some, Some, None, Ok, Err, Option, Result, sym, refl, ap, ◌∙◌, subst, ⊎_elim, append_assoc, one-add, arith}
use Rattle.std.proofs.lemmas.List.{append-nil, get_or_append_left, get_or_at, get_or_push, flat_map_more, length-append, length_push, nil_from_length, take-append-drop, length-take-le, drop_more, take_all}
use Rattle.std.proofs.lemmas.List.Sums.{prefix_len_stops}
use Rattle.std.proofs.lemmas.Bool.{and_parts, and_from, cases_Bool, cases_eq, cond-true, cond-false, eqb-true, le-leb, leb-true, ltb-true, lt-ltb, both_ways, false≢true, ne_eqb, not-true, not-false}
use Rattle.std.specs.List.{flat_map, prefix_len, AllByRecursion as All}
use Rattle.vocabulary.specs.declared.faults.Fault.{Fault}
use Rattle.vocabulary.specs.declared.faults.Question.TheVariants.{LineNotEnded, LineNotName, NameTwice, TooManyNames, VocabularySize}
use Rattle.vocabulary.specs.Faults.{fault}
use Rattle.vocabulary.specs.Limits.{most_names, most_name_bytes}
use Rattle.vocabulary.specs.Names.{between, is_name_start, is_name_byte, name_size, is_short_name, code_of}
use Rattle.vocabulary.specs.Vocabularies.{most_bytes, feed, line, EachName, NoTwo, Spells, chain, admitted, read_lines, read_names, Accepts, is_in_line}
use Rattle.vocabulary.proofs.Codes.{code_none, code_absent}

abbrev Names : Type 0
Names = List (List ℕ)

never_ok : {X A : Type 0} (f : Fault) (a : A) → ◌≡◌ {A = Result A Fault} (Err f) (Ok a) → X
never_ok f a e = let z : ◌≡◌ {A = ℕ} 0 1 = cc in absurd (omega arith)

same_ok : {A : Type 0} (a b : A) → ◌≡◌ {A = Result A Fault} (Ok a) (Ok b) → a ≡ b
same_ok a b e = cc

pub record Fine (names : Names) : Type 0 where
  pub few : length names ≤ most_names
  pub each : EachName names
  pub once : NoTwo names

-- what admitting a name tells
admitted_by : (a b d : Bool) (n : ℕ) (u : Unit {0}) → cond a (cond b (cond d (Err (fault NameTwice n)) (Ok tt)) (Err (fault TooManyNames n))) (Err (fault LineNotName n)) ≡ Ok u → (a ≡ true) × (b ≡ true) × (d ≡ false)
admitted_by true true true n u e = never_ok _ u e
admitted_by true true false n u e = (refl, refl, refl)
admitted_by true false d n u e = never_ok _ u e
admitted_by false b d n u e = never_ok _ u e

none_from : (r : Option ℕ) → is_some r ≡ false → r ≡ None
none_from None e = refl
none_from (Some x) e = absurd (false≢true (sym e))

-- one name more
pub fine_push : (names : Names) (n : ℕ) (name : List ℕ) (u : Unit {0}) → Fine names → admitted names n name ≡ Ok u → Fine (names ++ name ∷ [])
fine_push names n name u fine ok =
    let t = admitted_by (is_short_name name) (ltb (length names) most_names) (is_some (code_of names name)) n u ok in
    let room = ltb-true (length names) most_names t.1 in
    let len = length_push names name in
    let old : (k : ℕ) → k < length names → get_or (names ++ name ∷ []) k [] ≡ get_or names k [] = (λ k h. get_or_append_left names (name ∷ []) [] k h) in
    let new : get_or (names ++ name ∷ []) (length names) [] ≡ name = get_or_push names name [] (length names) refl in
    record {
      few = omega arith;
      each = λ k h. ⊎_elim (λ e. subst (λ x. is_short_name x ≡ true) (sym (ap (λ m. get_or (names ++ name ∷ []) m []) e ∙ new)) t.0) (λ ne. let l : k < length names = omega arith in ap is_short_name (old k l) ∙ fine.each k l) (cases_eq k (length names));
      once = λ j k jk h e. ⊎_elim
          (λ q. let l : j < length names = omega arith in code_absent names name (length names) (none_from _ t.2) j l (sym (old j l) ∙ e ∙ ap (λ m. get_or (names ++ name ∷ []) m []) q ∙ new))
          (λ ne. let l : k < length names = omega arith in let m : j < length names = omega arith in fine.once j k jk l (sym (old j m) ∙ e ∙ old k l))
          (cases_eq k (length names));
    }

-- reading to spelling
abbrev Reads : Names → List ℕ → List ℕ → Names → Type 0
Reads names begun s out = Fine out × (flat_map line names ++ (begun ++ s) ≡ flat_map line out)

end_by : (b : Bool) (names : Names) (n : ℕ) (begun : List ℕ) (out : Names) → eqb (length begun) 0 ≡ b → Fine names → cond b (Ok names) (Err (fault LineNotEnded n)) ≡ Ok out → Reads names begun [] out
end_by true names n begun out z fine e =
    let same : names ≡ out = same_ok names out e in
    let empty : begun ≡ [] = nil_from_length begun (eqb-true (length begun) 0 z) in
    subst (λ o. Reads names begun [] o) same (fine, ap (λ w. flat_map line names ++ (w ++ [])) empty ∙ append-nil (flat_map line names))
end_by false names n begun out z fine e = never_ok _ out e

module _ (names : Names) (n : ℕ) (begun : List ℕ) (b : ℕ) (s : List ℕ) (out : Names) (fine : Fine names) where
  -- the line ends here
  ended_by : (r : Result (Unit {0}) Fault) → admitted names n begun ≡ r → b ≡ feed → ((m : ℕ) → Fine (names ++ begun ∷ []) → read_lines (names ++ begun ∷ []) m [] s ≡ Ok out → Reads (names ++ begun ∷ []) [] s out)
      → chain r (λ _. read_lines (names ++ begun ∷ []) (n + (length begun + 1)) [] s) ≡ Ok out → Reads names begun (b ∷ s) out
  ended_by (Ok u) a f back e =
      let t = back (n + (length begun + 1)) (fine_push names n begun u fine a) e in
      (t.0, ap (λ x. flat_map line names ++ (begun ++ x ∷ s)) f ∙ ap (λ x. flat_map line names ++ x) (sym (append_assoc begun (feed ∷ []) s)) ∙ sym (append_assoc (flat_map line names) (begun ++ feed ∷ []) s) ∙ ap (λ x. x ++ s) (flat_map_more line [] names begun) ∙ t.1)
  ended_by (Err f) a q back e = never_ok f out e

  step_by : (t : Bool) → eqb b feed ≡ t
      → ((m : ℕ) → Fine (names ++ begun ∷ []) → read_lines (names ++ begun ∷ []) m [] s ≡ Ok out → Reads (names ++ begun ∷ []) [] s out)
      → (read_lines names n (begun ++ b ∷ []) s ≡ Ok out → Reads names (begun ++ b ∷ []) s out)
      → cond t (chain (admitted names n begun) (λ _. read_lines (names ++ begun ∷ []) (n + (length begun + 1)) [] s)) (read_lines names n (begun ++ b ∷ []) s) ≡ Ok out → Reads names begun (b ∷ s) out
  step_by true f ended on e = ended_by (admitted names n begun) refl (eqb-true b feed f) ended e
  step_by false f ended on e = let t = on e in (t.0, ap (λ x. flat_map line names ++ x) (sym (append_assoc begun (b ∷ []) s)) ∙ t.1)

read_spells : (names : Names) (n : ℕ) (begun s : List ℕ) (out : Names) → Fine names → read_lines names n begun s ≡ Ok out → Reads names begun s out
read_spells names n begun [] out fine e = end_by (eqb (length begun) 0) names n begun out refl fine e
read_spells names n begun (b ∷ s) out fine e =
    step_by names n begun b s out fine (eqb b feed) refl (λ m f h. read_spells (names ++ begun ∷ []) m [] s out f h) (λ h. read_spells names n (begun ++ b ∷ []) s out fine h) e

pub none_fine : Fine []
none_fine = record { few = omega arith; each = λ k h. absurd (omega arith); once = λ j k jk h e. absurd (omega arith) }

-- spelling to reading
abbrev Unfed : List ℕ → Type 0
Unfed w = All (λ b. eqb b feed ≡ false) w

-- bytes that end no line only lengthen what has begun
pub scan : (names : Names) (n : ℕ) (begun w s : List ℕ) → Unfed w → read_lines names n begun (w ++ s) ≡ read_lines names n (begun ++ w) s
scan names n begun [] s h = ap (λ x. read_lines names n x s) (sym (append-nil begun))
scan names n begun (b ∷ w) s h =
    cond-false _ _ _ h.0 ∙ scan names n (begun ++ b ∷ []) w s h.1 ∙ ap (λ x. read_lines names n x s) (append_assoc begun (b ∷ []) w)

leading_by : (p : ℕ → Bool) (t : Bool) (x : ℕ) (xs : List ℕ) → p x ≡ t → (prefix_len p xs ≡ length xs → All (λ b. p b ≡ true) xs) → cond t (1 + prefix_len p xs) 0 ≡ suc (length xs) → (p x ≡ true) × All (λ b. p b ≡ true) xs
leading_by p true x xs e back h = (e, back (omega arith))
leading_by p false x xs e back h = absurd (omega arith)

leading_all : (p : ℕ → Bool) (xs : List ℕ) → prefix_len p xs ≡ length xs → All (λ b. p b ≡ true) xs
leading_all p [] h = tt
leading_all p (x ∷ xs) h = leading_by p (p x) x xs refl (leading_all p xs) h

not_feed : (p : ℕ → Bool) → p feed ≡ false → (b : ℕ) → p b ≡ true → eqb b feed ≡ false
not_feed p z b h = ⊎_elim (λ t. absurd (both_ways (p feed) z (ap p (sym (eqb-true b feed t)) ∙ h))) (λ f. f) (cases_Bool (eqb b feed))

unfed_all : (xs : List ℕ) → All (λ b. is_name_byte b ≡ true) xs → Unfed xs
unfed_all [] h = tt
unfed_all (x ∷ xs) h = (not_feed is_name_byte refl x h.0, unfed_all xs h.1)

start_by : (t : Bool) (b : ℕ) (s : List ℕ) → is_name_start b ≡ t → cond t (1 + prefix_len is_name_byte s) 0 ≡ suc (length s) → Unfed (b ∷ s)
start_by true b s e h = (not_feed is_name_start refl b e, unfed_all s (leading_all is_name_byte s (omega arith)))
start_by false b s e h = absurd (omega arith)

unfed_size : (w : List ℕ) → name_size w ≡ length w → Unfed w
unfed_size [] h = tt
unfed_size (b ∷ s) h = start_by (is_name_start b) b s refl h

pub unfed_name : (w : List ℕ) → is_short_name w ≡ true → Unfed w
unfed_name w h = unfed_size w (eqb-true (name_size w) (length w) (and_parts _ _ h).1)

-- admitting by its tests
pub admitted_as : (names : Names) (n : ℕ) (name : List ℕ) (a b d : Bool) → a ≡ is_short_name name → b ≡ ltb (length names) most_names → d ≡ is_some (code_of names name) → ◌≡◌ {A = Result (Unit {0}) Fault} (cond a (cond b (cond d (Err (fault NameTwice n)) (Ok tt)) (Err (fault TooManyNames n))) (Err (fault LineNotName n))) (admitted names n name)
admitted_as names n name a b d p q r = λ i. cond (p i) (cond (q i) (cond (r i) (Err (fault NameTwice n)) (Ok tt)) (Err (fault TooManyNames n))) (Err (fault LineNotName n))

spelled_read : (names acc : Names) (n : ℕ) → Fine (acc ++ names) → read_lines acc n [] (flat_map line names) ≡ Ok (acc ++ names)
spelled_read [] acc n fine = ap (λ x. Ok x) (sym (append-nil acc))
spelled_read (w ∷ ws) acc n fine =
    let at : get_or (acc ++ w ∷ ws) (length acc) [] ≡ w = get_or_at acc w ws [] (length acc) refl in
    let len = length-append acc (w ∷ ws) in
    let few = fine.few in
    let short : is_short_name w ≡ true = ap is_short_name (sym at) ∙ fine.each (length acc) (omega arith) in
    let fresh : code_of acc w ≡ None = code_none acc w (length acc) (λ k h q. fine.once k (length acc) h (omega arith) (get_or_append_left acc (w ∷ ws) [] k h ∙ q ∙ sym at)) in
    let ok : admitted acc n w ≡ Ok tt = sym (admitted_as acc n w true true false (sym short) (sym (lt-ltb (length acc) most_names (omega arith))) (sym (ap is_some fresh))) in
    let whole : (acc ++ w ∷ []) ++ ws ≡ acc ++ w ∷ ws = append_assoc acc (w ∷ []) ws in
    ap (read_lines acc n []) (append_assoc w (feed ∷ []) (flat_map line ws))
    ∙ scan acc n [] w (feed ∷ flat_map line ws) (unfed_name w short)
    ∙ ap (λ r. chain r (λ _. read_lines (acc ++ w ∷ []) (n + (length w + 1)) [] (flat_map line ws))) ok
    ∙ spelled_read ws (acc ++ w ∷ []) (n + (length w + 1)) (subst Fine (sym whole) fine)
    ∙ ap (λ x. Ok x) whole

size_by : (t : Bool) (text : List ℕ) (names : Names) → cond t (read_lines [] 0 [] text) (Err (fault VocabularySize 0)) ≡ Ok names → (t ≡ true) × (read_lines [] 0 [] text ≡ Ok names)
size_by true text names e = (refl, e)
size_by false text names e = never_ok _ names e

-- the whole text
pub sized : (text : List ℕ) → 1 ≤ length text → length text ≤ most_bytes → read_names text ≡ read_lines [] 0 [] text
sized text a b = cond-true _ _ _ (and_from _ _ (le-leb 1 (length text) a) (le-leb (length text) most_bytes b))

pub accepts : Accepts
accepts text names = (there, back)
  where
    there : read_names text ≡ Ok names → Spells text names
    there e =
        let t = size_by (between 1 most_bytes (length text)) text names e in
        let size = and_parts _ _ t.0 in
        let r = read_spells [] 0 [] text names none_fine t.1 in
        record { size = (leb-true 1 (length text) size.0, leb-true (length text) most_bytes size.1); lines = r.1; few = r.0.few; each = r.0.each; once = r.0.once }

    back : Spells text names → read_names text ≡ Ok names
    back s =
        sized text s.size.0 s.size.1 ∙ ap (read_lines [] 0 []) s.lines ∙ spelled_read names [] 0 (record { few = s.few; each = s.each; once = s.once })

-- one line at the front of s
front_by : (p : ℕ → Bool) (t : Bool) (x : ℕ) (xs : List ℕ) → p x ≡ t → All (λ b. p b ≡ true) (take (prefix_len p xs) xs) → All (λ b. p b ≡ true) (take (cond t (1 + prefix_len p xs) 0) (x ∷ xs))
front_by p true x xs e back = ap_all (sym (one-add (prefix_len p xs))) (e, back)
  where
    ap_all : {k m : ℕ} → k ≡ m → All (λ b. p b ≡ true) (take k (x ∷ xs)) → All (λ b. p b ≡ true) (take m (x ∷ xs))
    ap_all q h = subst (λ k. All (λ b. p b ≡ true) (take k (x ∷ xs))) q h
front_by p false x xs e back = tt

leading_front : (p : ℕ → Bool) (xs : List ℕ) → All (λ b. p b ≡ true) (take (prefix_len p xs) xs)
leading_front p [] = tt
leading_front p (x ∷ xs) = front_by p (p x) x xs refl (leading_front p xs)

unfed_line : (w : List ℕ) → All (λ b. is_in_line b ≡ true) w → Unfed w
unfed_line [] h = tt
unfed_line (b ∷ w) h = (not-true (eqb b feed) h.0, unfed_line w h.1)

module _ (names : Names) (n : ℕ) (s : List ℕ) (k : ℕ) (is : k ≡ prefix_len is_in_line s) where
  before : Unfed (take k s)
  before = subst (λ m. Unfed (take m s)) (sym is) (unfed_line _ (leading_front is_in_line s))

  pub line_open : k ≡ length s → 0 < length s → read_lines names n [] s ≡ Err (fault LineNotEnded n)
  line_open e some =
      let whole : take k s ≡ s = take_all k s (omega arith) in
      ap (read_lines names n []) (sym (append-nil s)) ∙ scan names n [] s [] (subst Unfed whole before) ∙ cond-false _ _ _ (ne_eqb (length s) 0 (omega arith))

  pub line_shut : k < length s → read_lines names n [] s ≡ chain (admitted names n (take k s)) (λ _. read_lines (names ++ take k s ∷ []) (n + (k + 1)) [] (drop (k + 1) s))
  line_shut h =
      let len = length-take-le k s (omega arith) in
      let stop : get_or s k 0 ≡ feed = eqb-true _ _ (not-false (eqb (get_or s k 0) feed) (subst (λ m. is_in_line (get_or s m 0) ≡ false) (sym is) (prefix_len_stops is_in_line s 0 (subst (λ m. m < length s) is h)))) in
      ap (read_lines names n []) (sym (take-append-drop k s)) ∙ scan names n [] (take k s) (drop k s) before
      ∙ ap (read_lines names n (take k s)) (drop_more s k 0 h ∙ ap (λ b. b ∷ drop (k + 1) s) stop)
      ∙ ap (λ m. chain (admitted names n (take k s)) (λ _. read_lines (names ++ take k s ∷ []) (n + (m + 1)) [] (drop (k + 1) s))) len

  pub line_refused : (f : Fault) → k < length s → admitted names n (take k s) ≡ Err f → read_lines names n [] s ≡ Err f
  line_refused f h e = line_shut h ∙ ap (λ r. chain r (λ _. read_lines (names ++ take k s ∷ []) (n + (k + 1)) [] (drop (k + 1) s))) e

  pub line_taken : (u : Unit {0}) → k < length s → admitted names n (take k s) ≡ Ok u → read_lines names n [] s ≡ read_lines (names ++ take k s ∷ []) (n + (k + 1)) [] (drop (k + 1) s)
  line_taken u h e = line_shut h ∙ ap (λ r. chain r (λ _. read_lines (names ++ take k s ∷ []) (n + (k + 1)) [] (drop (k + 1) s))) e

-- a name that was admitted is short, and finds room
pub line_short : (names : Names) (n : ℕ) (w : List ℕ) (u : Unit {0}) → admitted names n w ≡ Ok u → (length w ≤ most_name_bytes) × (length names < most_names)
line_short names n w u e =
    let t = admitted_by (is_short_name w) (ltb (length names) most_names) (is_some (code_of names w)) n u e in
    let short = (and_parts (between 1 most_name_bytes (length w)) (eqb (name_size w) (length w)) t.0).0 in
    (leb-true (length w) most_name_bytes (and_parts (leb 1 (length w)) (leb (length w) most_name_bytes) short).1, ltb-true _ _ t.1)
