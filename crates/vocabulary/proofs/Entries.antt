-- The entries of a table with one more. Assumes nothing.
use Rattle.std.proofs.Common.{◌≡◌, ℕ, zero, suc, ◌+◌, ◌-◌, ◌<◌, ◌≤◌, List, [], ◌∷◌, ◌++◌, length, get_or, drop, set, false, Some, None, Ok, Result, replicate, sym, refl, ap, ◌∙◌, subst, ⊎_elim, add-one, arith, length-drop, length-take-le, get_or-set_other, get_or-set_same}
use lib.ListN.{length-map}
use Rattle.std.proofs.lemmas.List.{get_or-map, get_or-replicate, get_or_append_left, get_or_push, length_push, map_push}
use Rattle.std.proofs.lemmas.List.Elements.{All-append}
use Rattle.std.proofs.lemmas.Bool.{cases_eq, cond-true, cond-false, eq-eqb, ne_eqb}
use Rattle.std.specs.List.{All}
use Rattle.std.specs.Option.{unwrap_or}
use Rattle.std.specs.Result.{OnOk}
use Rattle.std.specs.Str.{bytes_eq}
use Rattle.vocabulary.specs.declared.tables.Entry.{Entry}
use Rattle.vocabulary.specs.declared.tables.Link.{Link}
use Rattle.vocabulary.specs.Limits.{most_name_bytes}
use Rattle.vocabulary.specs.Entries.{buckets, bucket_of, cut, link_of, names_on, links_on, no_link, latest, Heads, Links, LiesIn}
use Rattle.vocabulary.proofs.Buckets.{latest_local, Looking, looking_next}

-- what is promised of an answer that is there
pub held : {T E P : Type 0} (r : Result T E) (x : T) → r ≡ Ok x → OnOk r P → P
held {P = P} r x e p = subst (λ r. OnOk r P) e p

-- where a link leads that leads somewhere, and one that doesn't
pub link_some : (l : Link) → (l.code ≡ 0 → ⊥) → link_of l ≡ Some l.code
link_some l ne = cond-false _ _ _ (ne_eqb _ _ ne)

pub link_none : (l : Link) → l.code ≡ 0 → link_of l ≡ None
link_none l e = cond-true _ _ _ (eq-eqb _ _ e)

-- the link of an entry
pub link_at : (es : List Entry) (k : ℕ) (d : Entry) → k < length es → get_or (links_on es) k None ≡ link_of (get_or es k d).before
link_at es k d h = get_or-map (λ x. link_of x.before) es k d None h

module _ (text : List ℕ) where
  -- with no entries
  pub inside_none : (es : List Entry) → es ≡ [] → All (LiesIn text) es
  inside_none es z k d h = let l = ap length z in absurd (omega arith)

  pub short_none : (es : List Entry) → es ≡ [] → (k : ℕ) → k < length (names_on text es) → length (get_or (names_on text es) k []) ≤ most_name_bytes
  short_none es z k h = let l = ap (λ x. length (names_on text x)) z in absurd (omega arith)

  pub heads_none : (es : List Entry) → es ≡ [] → Heads text es (replicate 512 (record { code = 0 }))
  heads_none es z h l = ap link_of (get_or-replicate 512 h (record { code = 0 }) no_link l) ∙ ap (λ x. latest (names_on text x) h (length x)) (sym z)

  pub links_none : (es : List Entry) → es ≡ [] → Links text es
  links_none es z k h = let l = ap length z in absurd (omega arith)

  -- the name of an entry
  pub name_at : (es : List Entry) (k : ℕ) (d : Entry) → k < length es → get_or (names_on text es) k [] ≡ cut text (get_or es k d)
  name_at es k d h = get_or-map (cut text) es k d [] h

  pub count_names : (es : List Entry) → length (names_on text es) ≡ length es
  count_names es = length-map es (cut text)

  pub cut_length : (e : Entry) → LiesIn text e → length (cut text e) ≡ e.end - e.start
  cut_length e h = let order = h.0 in let inside = h.1 in let d = length-drop e.start text in length-take-le (e.end - e.start) (drop e.start text) (omega arith)

  module _ (es : List Entry) (e : Entry) where
    pub names_pushed : names_on text (es ++ e ∷ []) ≡ names_on text es ++ cut text e ∷ []
    names_pushed = map_push (cut text) es e

    links_pushed : links_on (es ++ e ∷ []) ≡ links_on es ++ link_of e.before ∷ []
    links_pushed = map_push (λ x. link_of x.before) es e

    count : length (es ++ e ∷ []) ≡ suc (length es)
    count = length_push es e ∙ add-one (length es)

    names_count : length (names_on text es) ≡ length es
    names_count = count_names es

    links_count : length (links_on es) ≡ length es
    links_count = length-map es (λ x. link_of x.before)

    old : (k : ℕ) → k < length es → get_or (names_on text es ++ cut text e ∷ []) k [] ≡ get_or (names_on text es) k []
    old k h = let n = names_count in get_or_append_left (names_on text es) (cut text e ∷ []) [] k (omega arith)

    new : get_or (names_on text es ++ cut text e ∷ []) (length es) [] ≡ cut text e
    new = get_or_push (names_on text es) (cut text e) [] (length es) names_count

    -- what holds of each entry before and of the new one holds of each now
    each : (P : ℕ → Type 0) → ((k : ℕ) → k < length es → P k) → P (length es) → (k : ℕ) → k < suc (length es) → P k
    each P before here k h = ⊎_elim (λ q. subst P (sym q) here) (λ ne. before k (omega arith)) (cases_eq k (length es))

    pub inside_pushed : All (LiesIn text) es → LiesIn text e → All (LiesIn text) (es ++ e ∷ [])
    inside_pushed h here = All-append (LiesIn text) es (e ∷ []) h one
      where
        one : All (LiesIn text) (e ∷ [])
        one zero d lt = here
        one (suc k) d lt = absurd (omega arith)

    pub short_pushed : ((k : ℕ) → k < length (names_on text es) → length (get_or (names_on text es) k []) ≤ most_name_bytes) → length (cut text e) ≤ most_name_bytes → (k : ℕ) → k < length (names_on text (es ++ e ∷ [])) → length (get_or (names_on text (es ++ e ∷ [])) k []) ≤ most_name_bytes
    short_pushed all here =
        subst (λ names. (k : ℕ) → k < length names → length (get_or names k []) ≤ most_name_bytes) (sym names_pushed) (λ k h.
        let n = names_count in
        let m = length_push (names_on text es) (cut text e) in
        each (λ k. length (get_or (names_on text es ++ cut text e ∷ []) k []) ≤ most_name_bytes)
        (λ k h. subst (λ x. length x ≤ most_name_bytes) (sym (old k h)) (all k (omega arith)))
        (subst (λ x. length x ≤ most_name_bytes) (sym new) here) k (omega arith))

    module _ (heads : List Link) (whole : length heads ≡ buckets) (headed : Heads text es heads) (b : ℕ) (is : b ≡ bucket_of (cut text e)) (within : b < buckets) (l : Link) (leads : link_of l ≡ Some (length es + 1)) where
      local : (h k : ℕ) → k ≤ length es → latest (names_on text es ++ cut text e ∷ []) h k ≡ latest (names_on text es) h k
      local h k l = let n = names_count in latest_local (names_on text es) (cut text e ∷ []) h k (omega arith)

      head : (h : ℕ) → h < buckets → link_of (get_or (set heads b l) h no_link) ≡ latest (names_on text es ++ cut text e ∷ []) h (suc (length es))
      head h lt =
          ⊎_elim
          (λ q. ap (λ x. link_of (get_or (set heads b l) x no_link)) q ∙ ap link_of (get_or-set_same heads b l no_link (omega arith)) ∙ leads ∙ ap (λ n. Some n) (add-one (length es))
          ∙ sym (cond-true _ _ _ (eq-eqb _ _ (ap bucket_of new ∙ sym is ∙ sym q))))
          (λ ne. ap link_of (get_or-set_other heads b h l no_link ne) ∙ headed h lt ∙ sym (local h (length es) (omega arith))
          ∙ sym (cond-false _ _ _ (ne_eqb _ _ (λ q. ne (sym q ∙ ap bucket_of new ∙ sym is)))))
          (cases_eq h b)

      pub heads_pushed : Heads text (es ++ e ∷ []) (set heads b l)
      heads_pushed h lt = head h lt ∙ ap (λ names. latest names h (suc (length es))) (sym names_pushed) ∙ ap (latest (names_on text (es ++ e ∷ [])) h) (sym count)

      linked : Links text es → e.before ≡ get_or heads b no_link → (k : ℕ) → k < suc (length es) → get_or (links_on es ++ link_of e.before ∷ []) k None ≡ latest (names_on text es ++ cut text e ∷ []) (bucket_of (get_or (names_on text es ++ cut text e ∷ []) k [])) k
      linked all before =
          let n = links_count in
          each (λ k. get_or (links_on es ++ link_of e.before ∷ []) k None ≡ latest (names_on text es ++ cut text e ∷ []) (bucket_of (get_or (names_on text es ++ cut text e ∷ []) k [])) k)
          (λ k h. get_or_append_left (links_on es) (link_of e.before ∷ []) None k (omega arith) ∙ all k h ∙ ap (λ x. latest (names_on text es) (bucket_of x) k) (sym (old k h)) ∙ sym (local _ k (omega arith)))
          (get_or_push (links_on es) (link_of e.before) None (length es) links_count ∙ ap link_of before ∙ headed b within ∙ ap (λ x. latest (names_on text es) x (length es)) (is ∙ ap bucket_of (sym new)) ∙ sym (local _ (length es) (omega arith)))

      pub links_pushed_all : Links text es → e.before ≡ get_or heads b no_link → Links text (es ++ e ∷ [])
      links_pushed_all all before k h =
          let n = count in
          ap (λ xs. get_or xs k None) links_pushed ∙ linked all before k (omega arith)
          ∙ ap (λ names. latest names (bucket_of (get_or names k [])) k) (sym names_pushed)

  -- the table with one name more
  module _ (es : List Entry) (e : Entry) (out : List Entry) (pushed : out ≡ es ++ e ∷ []) where
    pub inside_grown : All (LiesIn text) es → LiesIn text e → All (LiesIn text) out
    inside_grown all here = subst (All (LiesIn text)) (sym pushed) (inside_pushed es e all here)

    pub names_grown : names_on text out ≡ names_on text es ++ cut text e ∷ []
    names_grown = ap (names_on text) pushed ∙ names_pushed es e

    pub short_grown : ((k : ℕ) → k < length (names_on text es) → length (get_or (names_on text es) k []) ≤ most_name_bytes) → length (cut text e) ≤ most_name_bytes → (k : ℕ) → k < length (names_on text out) → length (get_or (names_on text out) k []) ≤ most_name_bytes
    short_grown all here = subst (λ es. (k : ℕ) → k < length (names_on text es) → length (get_or (names_on text es) k []) ≤ most_name_bytes) (sym pushed) (short_pushed es e all here)

    module _ (heads : List Link) (whole : length heads ≡ buckets) (headed : Heads text es heads) (b n : ℕ) (is : b ≡ bucket_of (cut text e)) (within : b < buckets) (size : n ≡ length out) (l : Link) (leads : link_of l ≡ Some n) where
      leads_on : link_of l ≡ Some (length es + 1)
      leads_on = leads ∙ ap (λ n. Some n) (size ∙ ap length pushed ∙ length_push es e)

      pub heads_grown : Heads text out (set heads b l)
      heads_grown = subst (λ es. Heads text es (set heads b l)) (sym pushed) (heads_pushed es e heads whole headed b is within l leads_on)

      pub links_grown : Links text es → e.before ≡ get_or heads b no_link → Links text out
      links_grown all before = subst (Links text) (sym pushed) (links_pushed_all es e heads whole headed b is within l leads_on all before)

  -- a search that passes an entry whose name is another
  module _ (es xs : List Entry) (is : xs ≡ es) (s : List ℕ) (code i : ℕ) (same : i ≡ code) (d : Entry) (now : Looking (names_on text es) s (Some code)) where
    at : get_or xs (i - 1) d ≡ get_or es (code - 1) d
    at = ap (λ l. get_or l (i - 1) d) is ∙ ap (λ k. get_or es (k - 1) d) same

    known : code - 1 < length es
    known = let k = now.known code refl in let n = count_names es in let a = k.0 in let b = k.1 in omega arith

    pub entry_inside : All (LiesIn text) es → LiesIn text (get_or xs (i - 1) d)
    entry_inside all = subst (LiesIn text) (sym at) (all (code - 1) d known)

    name : cut text (get_or xs (i - 1) d) ≡ get_or (names_on text es) (code - 1) []
    name = ap (cut text) at ∙ sym (name_at es (code - 1) d known)

    pub entry_passed : Links text es → false ≡ bytes_eq (cut text (get_or xs (i - 1) d)) s → (unwrap_or (link_of (get_or xs (i - 1) d).before) 0 < code) × Looking (names_on text es) s (link_of (get_or xs (i - 1) d).before)
    entry_passed linked other =
        looking_next (names_on text es) s code now (other ∙ ap (λ n. bytes_eq n s) name) _
        (ap (λ x. link_of x.before) at ∙ sym (link_at es (code - 1) d known) ∙ linked (code - 1) known)
