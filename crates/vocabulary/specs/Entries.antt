-- The entries in which a vocabulary finds the code of a name: chained by the bucket of their name, the newest first.
-- Assumes nothing.
use Rattle.std.specs.Prelude.{◌≡◌, ℕ, zero, suc, ◌+◌, ◌-◌, ◌*◌, ◌%◌, ◌<◌, ◌≤◌, cond, List, [], ◌∷◌, map, length, take, drop, Some, None, Option, ◌==◌, slice_index_or}
use Rattle.vocabulary.specs.declared.tables.Entry.{Entry}
use Rattle.vocabulary.specs.declared.tables.Link.{Link}

-- how many buckets there are
abbrev pub buckets : ℕ
buckets = 512

-- h and each byte of s by its place, the first at the place i
abbrev pub weighed : ℕ → ℕ → List ℕ → ℕ
weighed h i [] = h
weighed h i (b ∷ s) = weighed (h + (i + 1) * b) (i + 1) s

-- the bucket of a name
abbrev pub bucket_of : List ℕ → ℕ
bucket_of s = weighed 0 0 s % buckets

-- to no name
abbrev pub no_link : Link
no_link = record { code = 0 }

-- the code that a link leads to, or none
abbrev pub link_of : Link → Option ℕ
link_of l = cond (l.code == 0) None (Some l.code)

-- an entry's name stands in the text
abbrev pub LiesIn : List ℕ → Entry → Type 0
LiesIn text e = (e.start ≤ e.end) × (e.end ≤ length text)

-- the name of an entry
abbrev pub cut : List ℕ → Entry → List ℕ
cut text e = take (e.end - e.start) (drop e.start text)

-- the names of the entries
abbrev pub names_on : List ℕ → List Entry → List (List ℕ)
names_on text es = map (cut text) es

-- the codes before them in their buckets
abbrev pub links_on : List Entry → List (Option ℕ)
links_on es = map (λ e. link_of e.before) es

-- the greatest code up to k whose name falls into the bucket h
abbrev pub latest : List (List ℕ) → ℕ → ℕ → Option ℕ
latest names h zero = None
latest names h (suc k) = cond (bucket_of (slice_index_or names k []) == h) (Some (suc k)) (latest names h k)

-- each bucket's head is its newest code
abbrev pub Heads : List ℕ → List Entry → List Link → Type 0
Heads text es heads = (h : ℕ) → h < buckets → link_of (slice_index_or heads h no_link) ≡ latest (names_on text es) h (length es)

-- each entry has the newest code before it in its bucket
abbrev pub Links : List ℕ → List Entry → Type 0
Links text es = (k : ℕ) → k < length es → slice_index_or (links_on es) k None ≡ latest (names_on text es) (bucket_of (slice_index_or (names_on text es) k [])) k
