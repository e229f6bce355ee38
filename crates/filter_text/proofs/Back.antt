-- The text of steps is read back. Assumes nothing.
use Rattle.std.proofs.Common.{◌≡◌, ℕ, zero, suc, ◌+◌, ◌<◌, ◌≤◌, Bool, true, false, cond, List, [], ◌∷◌, ◌++◌, length, drop, is_some, Some, Ok, Err, unwrap_or, sym, refl, ap, ◌∙◌, subst, ⊎_elim, append_assoc, append-nil, arith}
use Rattle.std.proofs.lemmas.List.{take_at, drop_at}
use Rattle.std.proofs.lemmas.Bool.{cond-true, cond-false, ne_eqb, le-ltb, cases_Bool, both_ways, and_from, and_parts, le-leb, leb-true}
use Rattle.std.specs.List.{prefix_len}
use Rattle.vocabulary.specs.declared.faults.Question.TheVariants.{FilterSize}
use Rattle.vocabulary.specs.Faults.{fault}
use Rattle.vocabulary.specs.Limits.{most_names, most_name_bytes, most_steps}
use Rattle.vocabulary.specs.Names.{between, is_name_start, is_name_byte, name_size, name_of, code_of}
use Rattle.vocabulary.specs.Vocabularies.{EachName, NoTwo}
use Rattle.filter.specs.declared.steps.Axis.{Axis}
use Rattle.filter.specs.declared.steps.Axis.TheVariants.{Child, Descendant}
use Rattle.filter.specs.declared.steps.Test.{Test}
use Rattle.filter.specs.declared.steps.Test.TheVariants.{Any, Code}
use Rattle.filter.specs.declared.steps.Step.{Step}
use Rattle.filter.specs.Filters.{is_filter}
use Rattle.filter_text.specs.Texts.{slash, star, slashes, test_text, step_text, text_of, IsText}
use Rattle.filter_text.specs.Reads.{most_text, axis_of, coded, named, test_of, with_axis, stepped, step_of, read_from, read_steps, Reading}
use Rattle.filter_text.proofs.Words.{Known, known_none, none_known, some_is, IsWord, name_word, name_code, known_tests, text_size}
use Rattle.filter_text.proofs.Forth.{forth}
use Rattle.filter_text.proofs.Turns.{turn}

abbrev Names : Type 0
Names = List (List ℕ)

-- what may come after a name that is whole
abbrev Stops : List ℕ → Type 0
Stops [] = Unit {0}
Stops (b ∷ s) = b ≡ slash

abbrev NoSlash : List ℕ → Type 0
NoSlash [] = Unit {0}
NoSlash (b ∷ s) = b ≡ slash → ⊥

leads : (w rest : List ℕ) → prefix_len is_name_byte w ≡ length w → Stops rest → prefix_len is_name_byte (w ++ rest) ≡ length w
leads [] [] e h = refl
leads [] (b ∷ s) e h = ap (λ x. prefix_len is_name_byte (x ∷ s)) h
leads (b ∷ w) rest e h =
    ⊎_elim
    (λ y.
    let f = sym (cond-true (is_name_byte b) (1 + prefix_len is_name_byte w) 0 y) ∙ e in
    let g = leads w rest (omega (arith, f)) h in
    cond-true (is_name_byte b) (1 + prefix_len is_name_byte (w ++ rest)) 0 y ∙ omega (arith, g))
    (λ n. absurd (omega (arith, sym (cond-false (is_name_byte b) (1 + prefix_len is_name_byte w) 0 n) ∙ e)))
    (cases_Bool (is_name_byte b))

-- the first byte of a name
first : (b : ℕ) (w : List ℕ) → IsWord (b ∷ w) → is_name_start b ≡ true
first b w is =
    ⊎_elim (λ y. y) (λ n. absurd (omega (arith, sym (cond-false (is_name_start b) (1 + prefix_len is_name_byte w) 0 n) ∙ is.whole))) (cases_Bool (is_name_start b))

other : (b a : ℕ) → is_name_start b ≡ true → is_name_start a ≡ false → b ≡ a → ⊥
other b a y n e = both_ways (is_name_start b) (ap is_name_start e ∙ n) y

name_front : (b : ℕ) (w rest : List ℕ) → IsWord (b ∷ w) → Stops rest → name_size (b ∷ (w ++ rest)) ≡ length (b ∷ w)
name_front b w rest is h =
    let y = first b w is in
    let f = sym (cond-true (is_name_start b) (1 + prefix_len is_name_byte w) 0 y) ∙ is.whole in
    let g = leads w rest (omega (arith, f)) h in
    cond-true (is_name_start b) (1 + prefix_len is_name_byte (w ++ rest)) 0 y ∙ omega (arith, g)

word_back : (names : Names) (n : ℕ) (rest : List ℕ) → Stops rest → (w : List ℕ) (c : ℕ) → IsWord w → code_of names w ≡ Some c → test_of names n (w ++ rest) ≡ Ok (Code c, rest)
word_back names n rest h [] c is e = absurd (omega (arith, is.some))
word_back names n rest h (b ∷ w) c is e =
    let s = b ∷ (w ++ rest) in
    let k = length (b ∷ w) in
    cond-false _ _ _ (ne_eqb b star (other b star (first b w is) refl))
    ∙ ap (named names n s) (name_front b w rest is h)
    ∙ cond-false _ _ _ (ne_eqb k 0 (λ z. omega (arith, z)))
    ∙ cond-false _ _ _ (le-ltb most_name_bytes k is.few)
    ∙ ap (λ l. coded (code_of names l) n (drop k s)) (take_at (b ∷ w) rest k refl)
    ∙ ap (λ o. coded o n (drop k s)) e
    ∙ ap (λ l. Ok (Code c, l)) (drop_at (b ∷ w) rest k refl)

no_slash : (w rest : List ℕ) → IsWord w → NoSlash (w ++ rest)
no_slash [] rest is = absurd (omega (arith, is.some))
no_slash (b ∷ w) rest is = other b slash (first b w is) refl

axis_back : (a : Axis) (t rest : List ℕ) → NoSlash (t ++ rest) → axis_of ((slashes a ++ t) ++ rest) ≡ Some (a, t ++ rest)
axis_back Descendant t rest h = refl
axis_back Child [] [] h = refl
axis_back Child [] (b ∷ s) h = ap Some (cond-false _ _ _ (ne_eqb b slash h))
axis_back Child (b ∷ t) rest h = ap Some (cond-false _ _ _ (ne_eqb b slash h))

slash_first : (a : Axis) (t s : List ℕ) → Stops ((slashes a ++ t) ++ s)
slash_first Child t s = refl
slash_first Descendant t s = refl

some : (a : Axis) (t s : List ℕ) → 0 < length ((slashes a ++ t) ++ s)
some Child t s = omega arith
some Descendant t s = omega arith

stops : (names : Names) (ss : List Step) → Stops (text_of names ss)
stops names [] = tt
stops names (x ∷ xs) = slash_first x.axis (unwrap_or (test_text names x.test) []) (text_of names xs)

module _ (names : Names) (each : EachName names) (once : NoTwo names) where
  test_back : (n : ℕ) (rest : List ℕ) → Stops rest → (t : Test) → is_some (test_text names t) ≡ true → test_of names n (unwrap_or (test_text names t) [] ++ rest) ≡ Ok (t, rest)
  test_back n rest h Any low = refl
  test_back n rest h (Code c) low =
      let s = some_is (name_of names c) low in
      ap (λ o. test_of names n (unwrap_or o [] ++ rest)) s.1 ∙ word_back names n rest h s.0 c (name_word names each c s.0 s.1) (name_code names once c s.0 s.1)

  test_no_slash : (t : Test) → is_some (test_text names t) ≡ true → (rest : List ℕ) → NoSlash (unwrap_or (test_text names t) [] ++ rest)
  test_no_slash Any low rest = λ e. omega (arith, e)
  test_no_slash (Code c) low rest = let s = some_is (name_of names c) low in subst (λ o. NoSlash (unwrap_or o [] ++ rest)) (sym s.1) (no_slash s.0 rest (name_word names each c s.0 s.1))

  step_back : (n : ℕ) (x : Step) (rest : List ℕ) → is_some (test_text names x.test) ≡ true → Stops rest → step_of names n (step_text names x ++ rest) ≡ Ok (x, rest)
  step_back n x rest low h =
      let s = step_text names x ++ rest in
      ap (stepped names n s) (axis_back x.axis (unwrap_or (test_text names x.test) []) rest (test_no_slash x.test low rest))
      ∙ ap (with_axis x.axis) (test_back _ rest h x.test low)

  back : (xs : List Step) (k : ℕ) (acc : List Step) (n : ℕ) → length xs ≤ k → Known names xs → read_from names k acc n (text_of names xs) ≡ Ok (acc ++ xs)
  back [] zero acc n h low = ap Ok (sym (append-nil acc))
  back [] (suc k) acc n h low = ap Ok (sym (append-nil acc))
  back (x ∷ xs) zero acc n h low = absurd (omega arith)
  back (x ∷ xs) (suc k) acc n h low =
      turn names k acc n (text_of names (x ∷ xs)) x (text_of names xs) (some x.axis (unwrap_or (test_text names x.test) []) (text_of names xs)) (step_back n x (text_of names xs) low.0 (stops names xs))
      ∙ back xs k (acc ++ x ∷ []) _ (omega arith) low.1
      ∙ ap Ok (append_assoc acc (x ∷ []) xs)

pub sized : (names : Names) (text : List ℕ) → 1 ≤ length text → length text ≤ most_text → read_steps names text ≡ read_from names most_steps [] 0 text
sized names text a b = cond-true _ _ _ (and_from _ _ (le-leb 1 (length text) a) (le-leb (length text) most_text b))

size_by : (names : Names) (t : Bool) (text : List ℕ) (ss : List Step) → cond t (read_from names most_steps [] 0 text) (Err (fault FilterSize 0)) ≡ Ok ss → (t ≡ true) × (read_from names most_steps [] 0 text ≡ Ok ss)
size_by names true text ss e = (refl, e)
size_by names false text ss e = let z : ◌≡◌ {A = ℕ} 0 1 = cc in absurd (omega arith)

-- text of no step is empty
step_some : (names : Names) (text : List ℕ) (ss : List Step) → 1 ≤ length text → text ≡ text_of names ss → 1 ≤ length ss
step_some names text [] h e = absurd (omega (arith, ap length e))
step_some names text (s ∷ ss) h e = omega arith

pub reading : Reading
reading names each once text ss = (there, here)
  where
    there : read_steps names text ≡ Ok ss → IsText names text ss
    there e =
        let t = size_by names (between 1 most_text (length text)) text ss e in
        let size = and_parts _ _ t.0 in
        let f = forth names most_steps [] 0 text ss t.1 in
        let all : f.steps ≡ ss = sym f.all in
        subst (IsText names text) all (record { some = step_some names text f.steps (leb-true _ _ size.0) f.same; few = f.few; known = known_none names 1 f.steps f.known; same = f.same })

    here : IsText names text ss → read_steps names text ≡ Ok ss
    here is =
        let known = none_known names 1 ss is.known in
        let size = text_size names each ss known in
        let low = size.0 in
        let high = size.1 in
        let some = is.some in
        let few = is.few in
        ap (read_steps names) is.same ∙ sized names (text_of names ss) (omega arith) (omega arith) ∙ back names each once ss most_steps [] 0 is.few known

-- the steps that were read are a filter's
pub reads_filter : (names : Names) → EachName names → NoTwo names → length names ≤ most_names → (text : List ℕ) (ss : List Step) → read_steps names text ≡ Ok ss → is_filter ss ≡ true
reads_filter names each once few text ss e =
    let is = (reading names each once text ss).0 e in
    and_from _ _ (and_from _ _ (le-leb 1 (length ss) is.some) (le-leb (length ss) most_steps is.few)) (known_tests names few ss (none_known names 1 ss is.known))
