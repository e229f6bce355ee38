-- Documents: one root element, and around it white space, comments and instructions. The bytes that a document stands
-- for, its events, and how deep its elements are nested. Assumes nothing.
use Rattle.std.specs.Prelude.{◌≡◌, ℕ, suc, ◌+◌, max, true, false, List, [], ◌∷◌, ◌++◌, length, ◌==◌}
use Rattle.std.specs.Option.{unwrap_or}
use Rattle.vocabulary.specs.Names.{code_of}
use Rattle.message.specs.declared.events.Event.{Event}
use Rattle.message.specs.declared.events.Event.TheVariants.{Start, End}
use Rattle.markup.specs.Bytes.{open_angle, white}
use Rattle.markup.specs.Grammar.{opening, empty, StartTag, EndTag, Comment, Instruction}

-- an element with its tags; its content is text, comments, instructions and child elements in a row
mutual
  pub data Element : Type 0 where
    emptied : (n s : List ℕ) → StartTag n empty s → Element
    filled : (n s : List ℕ) → StartTag n opening s → Content → (e : List ℕ) → EndTag n e → Element

  pub data Content : Type 0 where
    nothing : Content
    byte : (b : ℕ) → (b == open_angle) ≡ false → Content → Content
    noted : (s : List ℕ) → Comment s → Content → Content
    ordered : (s : List ℕ) → Instruction s → Content → Content
    child : Element → Content → Content

-- what may stand before and after the root
pub data Misc : Type 0 where
  nothing : Misc
  blank : (b : ℕ) → white b ≡ true → Misc → Misc
  noted : (s : List ℕ) → Comment s → Misc → Misc
  ordered : (s : List ℕ) → Instruction s → Misc → Misc

pub record Document : Type 0 where
  pub before : Misc
  pub root : Element
  pub after : Misc

-- the bytes
abbrev mutual
  pub element_bytes : Element → List ℕ
  element_bytes (emptied n s h) = open_angle ∷ s
  element_bytes (filled n s h c e g) = open_angle ∷ (s ++ (content_bytes c ++ (open_angle ∷ e)))

  pub content_bytes : Content → List ℕ
  content_bytes Content.nothing = []
  content_bytes (byte b h c) = b ∷ content_bytes c
  content_bytes (Content.noted s h c) = open_angle ∷ (s ++ content_bytes c)
  content_bytes (Content.ordered s h c) = open_angle ∷ (s ++ content_bytes c)
  content_bytes (child e c) = element_bytes e ++ content_bytes c

abbrev pub misc_bytes : Misc → List ℕ
misc_bytes Misc.nothing = []
misc_bytes (blank b h m) = b ∷ misc_bytes m
misc_bytes (Misc.noted s h m) = open_angle ∷ (s ++ misc_bytes m)
misc_bytes (Misc.ordered s h m) = open_angle ∷ (s ++ misc_bytes m)

abbrev pub document_bytes : Document → List ℕ
document_bytes d = misc_bytes d.before ++ (element_bytes d.root ++ misc_bytes d.after)

-- the code of a name, 0 where the vocabulary does not have it
abbrev pub code_or_0 : List (List ℕ) → List ℕ → ℕ
code_or_0 names n = unwrap_or (code_of names n) 0

-- the events, where the element or the content begins at the place p; the place of each is that of its tag's `<`
abbrev mutual
  pub element_events : List (List ℕ) → ℕ → Element → List Event
  element_events names p (emptied n s h) = Start (code_or_0 names n) p ∷ End p ∷ []
  element_events names p (filled n s h c e g) =
      Start (code_or_0 names n) p ∷ (content_events names (p + (1 + length s)) c ++ (End (p + (1 + length s) + length (content_bytes c)) ∷ []))

  pub content_events : List (List ℕ) → ℕ → Content → List Event
  content_events names p Content.nothing = []
  content_events names p (byte b h c) = content_events names (p + 1) c
  content_events names p (Content.noted s h c) = content_events names (p + (1 + length s)) c
  content_events names p (Content.ordered s h c) = content_events names (p + (1 + length s)) c
  content_events names p (child e c) = element_events names p e ++ content_events names (p + length (element_bytes e)) c

abbrev pub document_events : List (List ℕ) → Document → List Event
document_events names d = element_events names (length (misc_bytes d.before)) d.root

-- the most elements that are open at a time
abbrev mutual
  pub element_depth : Element → ℕ
  element_depth (emptied n s h) = 1
  element_depth (filled n s h c e g) = suc (content_depth c)

  pub content_depth : Content → ℕ
  content_depth Content.nothing = 0
  content_depth (byte b h c) = content_depth c
  content_depth (Content.noted s h c) = content_depth c
  content_depth (Content.ordered s h c) = content_depth c
  content_depth (child e c) = max (element_depth e) (content_depth c)
