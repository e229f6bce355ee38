-- The open names, as they lie and with the innermost first. Assumes nothing.
use Rattle.std.proofs.Common.{◌≡◌, ℕ, zero, suc, ◌+◌, ◌-◌, ◌<◌, ◌≤◌, eqb, List, [], ◌∷◌, ◌++◌, map, reverse, length, get_or, take, drop, Some, None, Option, sym, refl, ap, ◌∙◌, subst, arith}
use lib.ListN.{length-map}
use Rattle.std.specs.List.{All, slice_get}
use Rattle.std.proofs.Math.Seq.{take-length}
use Rattle.std.proofs.lemmas.List.{take_more, length-reverse, reverse-append}
use Rattle.std.proofs.lemmas.List.Elements.{All-append}
use Rattle.std.proofs.lemmas.Option.{slice_get_within, slice_get-get_or}
use Rattle.std.proofs.lemmas.Slice.Eq.{bytes_eq-Decides}
use Rattle.std.proofs.lemmas.Bool.{cond-true, eq-eqb, ne_eqb}
use Rattle.std.specs.Borrow.{Bor}
use Rattle.vocabulary.specs.Names.{name_size}
use Rattle.markup.specs.Bytes.{begins, close_angle}
use Rattle.markup.specs.Readings.{is_empty}
use Rattle.xml.specs.declared.items.Span.{Span}
use Rattle.xml.specs.declared.tags.Tagged.{Tagged}
use Rattle.xml.specs.Items.{cut, IsName}
use Rattle.xml.specs.Opened.{closes_innermost, Innermost, MetAt}
use Rattle.xml.specs.Tags.{EndNamed}
use Rattle.xml.specs.Texts.{names_at}
use Rattle.xml.proofs.Named.{cut_length}

pub size : (m : List ℕ) (xs : List Span) → length (names_at m xs) ≡ length xs
size m xs = length-map (reverse xs) (cut m) ∙ length-reverse xs

pub pushed : (m : List ℕ) (xs : List Span) (x : Span) → names_at m (xs ++ x ∷ []) ≡ cut m x ∷ names_at m xs
pushed m xs x = ap (map (cut m)) (reverse-append xs (x ∷ []))

pub all_pushed : (m : List ℕ) (xs : List Span) (x : Span) → All (IsName m) xs → IsName m x → All (IsName m) (xs ++ x ∷ [])
all_pushed m xs x h here = All-append (IsName m) xs (x ∷ []) h one
  where
    one : All (IsName m) (x ∷ [])
    one zero d lt = here
    one (suc k) d lt = absurd (omega arith)

module _ (m : List ℕ) (xs : List Span) (x : Span) (is : slice_get xs (length xs - 1) ≡ Some x) where
  at_last : (length xs - 1 < length xs) × (get_or xs (length xs - 1) x ≡ x)
  at_last =
      let lt = slice_get_within xs (length xs - 1) x is in
      let e : Some (get_or xs (length xs - 1) x) ≡ Some x = sym (slice_get-get_or xs (length xs - 1) x lt) ∙ is in
      (lt, cc)

  last_name : All (IsName m) xs → IsName m x
  last_name h = subst (IsName m) at_last.1 (h (length xs - 1) x at_last.0)

  last : xs ≡ take (length xs - 1) xs ++ x ∷ []
  last =
      let n = length xs - 1 in
      let lt = at_last.0 in
      let all : n + 1 ≡ length xs = omega arith in
      sym (take-length xs) ∙ sym (ap (λ k. take k xs) all) ∙ take_more xs n x lt ∙ ap (λ y. take n xs ++ y ∷ []) at_last.1

  pub tops : names_at m xs ≡ cut m x ∷ names_at m (take (length xs - 1) xs)
  tops = ap (names_at m) last ∙ pushed m (take (length xs - 1) xs) x

  pub innermost_is : All (IsName m) xs → (b : Bor (List ℕ)) → b.now ≡ cut m x → Innermost (names_at m xs) (Some b)
  innermost_is h b e =
      let name = last_name h in
      let some = name.some in
      let spelt = name.spelt in
      let l = cut_length m x (omega arith) name.inside in
      subst (λ ns. Innermost ns (Some b)) (sym tops) (e, omega arith, omega arith)

pub none_last : (xs : List Span) → slice_get xs (length xs - 1) ≡ None → xs ≡ []
none_last [] h = refl
none_last (x ∷ xs) h = let e = slice_get-get_or (x ∷ xs) (length (x ∷ xs) - 1) x (omega arith) in absurd cc

-- without the last, the names are those behind the first
pub popped : (m : List ℕ) (xs : List Span) → names_at m (take (length xs - 1) xs) ≡ drop 1 (names_at m xs)
popped m xs = by_last (slice_get xs (length xs - 1)) refl
  where
    by_last : (o : Option Span) → slice_get xs (length xs - 1) ≡ o → names_at m (take (length xs - 1) xs) ≡ drop 1 (names_at m xs)
    by_last None h = let e = none_last xs h in (λ i. names_at m (take (length (e i) - 1) (e i))) ∙ sym (ap (λ l. drop 1 (names_at m l)) e)
    by_last (Some x) h = sym (ap (drop 1) (tops m xs x h))

-- the innermost name is one name, and an end tag with it meets the innermost element
pub inner_name : (names : List (List ℕ)) (x : Bor (List ℕ)) → Innermost names (Some x) → (0 < length x.now) × (length x.now ≤ name_size x.now)
inner_name [] x inner = absurd inner
inner_name (n ∷ names) x inner = let e = inner.0 in let i = inner.1 in let k = inner.2 in let l = ap length e in let z = ap name_size e in (omega arith, omega arith)

pub met_by : (m : List ℕ) (p : ℕ) (names : List (List ℕ)) (x : Bor (List ℕ)) (r : Option Tagged) → Innermost names (Some x) → EndNamed m p x.now r → MetAt m names p r
met_by m p [] x r inner h = absurd inner
met_by m p (n ∷ names) x None inner h = tt
met_by m p (n ∷ names) x (Some t) inner h = (h.0, cond-true _ _ _ ((bytes_eq-Decides n (cut m t.name)).1 (sym inner.0 ∙ sym h.1)))

pub closes_by : (names : List (List ℕ)) (x : Bor (List ℕ)) (s : List ℕ) → Innermost names (Some x) → begins (x.now ++ close_angle ∷ []) s ≡ closes_innermost names s
closes_by [] x s inner = absurd inner
closes_by (n ∷ names) x s inner = ap (λ y. begins (y ++ close_angle ∷ []) s) inner.0

empty_size : {A : Type 0} (ns : List (List ℕ)) (xs : List A) → length ns ≡ length xs → is_empty ns ≡ eqb (length xs) 0
empty_size [] xs h = sym (eq-eqb (length xs) 0 (sym h))
empty_size (n ∷ ns) xs h = sym (ne_eqb (length xs) 0 (λ z. omega arith))

-- whether none is open
pub none_open : (m : List ℕ) (xs : List Span) → is_empty (names_at m xs) ≡ eqb (length xs) 0
none_open m xs = empty_size (names_at m xs) xs (size m xs)
