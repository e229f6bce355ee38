-- What a tag at a place of a message is, or why there is none. Assumes nothing.
use Rattle.std.specs.Prelude.{◌≡◌, ℕ, ◌+◌, ◌<◌, ◌≤◌, List, length, take, drop, Some, None, Ok, Err, Option, Result}
use Rattle.vocabulary.specs.declared.faults.Fault.{Fault}
use Rattle.vocabulary.specs.declared.faults.Question.TheVariants.{NoMarkup, MarkupNotEnded, ByteMisfit}
use Rattle.vocabulary.specs.Faults.{fault}
use Rattle.markup.specs.Bytes.{name_byte, front}
use Rattle.markup.specs.Grammar.{Kind, closing}
use Rattle.markup.specs.Runs.{kind_of}
use Rattle.markup.specs.Tags.{at_open, name_in, Scan, cut_short, ends, begins_none, misfits, scan_from}
use Rattle.markup.specs.declared.tags.TagKind.TheVariants.{Closing}
use Rattle.xml.specs.declared.items.Span.{Span}
use Rattle.xml.specs.declared.tags.Tagged.{Tagged}
use Rattle.xml.specs.Items.{cut}

-- the fault of markup at the place p that goes on so behind its `<`
abbrev pub fault_by : ℕ → Scan → Option Fault
fault_by p cut_short = Some (fault MarkupNotEnded p)
fault_by p (ends k c) = None
fault_by p begins_none = Some (fault NoMarkup p)
fault_by p (misfits c) = Some (fault ByteMisfit (p + 1 + c))

-- a tag at the place p with this name that goes on so behind its `<`
abbrev pub Reads : ℕ → Span → Scan → Result Tagged Fault → Type 0
Reads p name x (Err f) = fault_by p x ≡ Some f
Reads p name x (Ok t) = (t.name ≡ name) × (x ≡ ends (kind_of t.kind) t.len)

-- a tag of this kind
pub record TagIs (m : List ℕ) (p : ℕ) (k : Kind) (t : Tagged) : Type 0 where
  pub scan : scan_from at_open (drop (p + 1) m) ≡ ends k t.len
  pub long : 1 < t.len
  pub reach : p + 1 + t.len ≤ length m
  pub order : t.name.start ≤ t.name.end
  pub inside : t.name.end ≤ length m
  pub spelt : cut m t.name ≡ name_in k (take t.len (drop (p + 1) m))

abbrev pub StartTagged : List ℕ → ℕ → Result Tagged Fault → Type 0
StartTagged m p (Err f) = fault_by p (scan_from at_open (drop (p + 1) m)) ≡ Some f
StartTagged m p (Ok t) = TagIs m p (kind_of t.kind) t × (t.kind ≡ Closing → ⊥) × (t.name.start ≡ p + 1) × (cut m t.name ≡ front name_byte (drop (p + 1) m))

abbrev pub EndTagged : List ℕ → ℕ → Result Tagged Fault → Type 0
EndTagged m p (Err f) = fault_by p (scan_from at_open (drop (p + 1) m)) ≡ Some f
EndTagged m p (Ok t) = TagIs m p closing t

-- no tag, or an end tag of this name
abbrev pub EndNamed : List ℕ → ℕ → List ℕ → Option Tagged → Type 0
EndNamed m p name None = Unit {0}
EndNamed m p name (Some t) = TagIs m p closing t × (cut m t.name ≡ name)
