-- The fields of a reader after a tag. Assumes nothing.
use Rattle.std.specs.Prelude.{◌≡◌, ℕ, ◌+◌, ◌<◌, ◌≤◌, Bool, false, cond, List, [], ◌∷◌, ◌++◌, Some, None, Ok, Err, Option, Result, length, nat_le}
use Rattle.vocabulary.specs.declared.faults.Fault.{Fault}
use Rattle.vocabulary.specs.declared.faults.Question.TheVariants.{TagAfterRoot, TagTooDeep, EndTagUnmet}
use Rattle.vocabulary.specs.Faults.{fault}
use Rattle.vocabulary.specs.Limits.{most_open}
use Rattle.vocabulary.specs.Names.{name_size}
use Rattle.std.specs.Borrow.{Bor}
use Rattle.std.specs.Str.{bytes_eq}
use Rattle.xml.specs.declared.items.At.{At}
use Rattle.xml.specs.declared.items.Span.{Span}
use Rattle.xml.specs.declared.tags.Tagged.{Tagged}
use Rattle.xml.specs.declared.texts.TextReader.{TextReader}
use Rattle.markup.specs.Bytes.{begins, close_angle}
use Rattle.markup.specs.Grammar.{closing}
use Rattle.xml.specs.Items.{cut}
use Rattle.xml.specs.Tags.{TagIs}
use Rattle.xml.specs.Texts.{open_names, bytes_of, codes_of}

-- whether a start tag may stand, where d elements are open and o says whether the root has ended
abbrev pub admitted : Bool → ℕ → ℕ → Result (Unit {0}) Fault
admitted o d p = cond o (Err (fault TagAfterRoot p)) (cond (nat_le most_open d) (Err (fault TagTooDeep p)) (Ok tt))

-- whether an end tag at the place p with the name n meets the innermost of these open elements
abbrev pub met : List (List ℕ) → ℕ → List ℕ → Result (Unit {0}) Fault
met [] p n = Err (fault EndTagUnmet p)
met (x ∷ xs) p n = cond (bytes_eq x n) (Ok tt) (Err (fault EndTagUnmet p))

-- no tag, or an end tag at the place p that meets the innermost of these open elements
abbrev pub MetAt : List ℕ → List (List ℕ) → ℕ → Option Tagged → Type 0
MetAt m names p None = Unit {0}
MetAt m names p (Some t) = TagIs m p closing t × (met names p (cut m t.name) ≡ Ok tt)

-- the innermost of these open elements' name stands in front, with a `>` right behind it
abbrev pub closes_innermost : List (List ℕ) → List ℕ → Bool
closes_innermost [] s = false
closes_innermost (x ∷ xs) s = begins (x ++ close_angle ∷ []) s

-- the name of the innermost of these open elements, which is one name, or that none is open
abbrev pub Innermost : List (List ℕ) → Option (Bor (List ℕ)) → Type 0
Innermost names None = names ≡ []
Innermost [] (Some x) = ⊥
Innermost (n ∷ names) (Some x) = (x.now ≡ n) × (0 < length n) × (length n ≤ name_size n)

-- a tag at a place of the reader's message that the reader has not passed, where no end is owed
pub record Ready (s : TextReader) (at : At) : Type 0 where
  pub here : at.message.now ≡ bytes_of s
  pub ahead : s.place ≤ at.place
  pub idle : s.pending ≡ None

-- the reader after a tag: these names are open
pub record After (s : TextReader) (place : ℕ) (tag : Tagged) (names : List (List ℕ)) (over : Bool) (pending : Option ℕ) (latest : Option Span) (s' : TextReader) : Type 0 where
  pub bytes : bytes_of s' ≡ bytes_of s
  pub codes : codes_of s' ≡ codes_of s
  pub placed : s'.place ≡ place + 1 + tag.len
  pub stack : open_names s' ≡ names
  pub ended : s'.over ≡ over
  pub owing : s'.pending ≡ pending
  pub last : s'.latest ≡ latest
  pub count : s'.taken ≡ s.taken + 1
