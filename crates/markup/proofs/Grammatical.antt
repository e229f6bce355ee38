-- A message closes exactly when its bytes are those of a document, and then tells that document's events. Assumes nothing.
use Rattle.std.proofs.Common.{◌≡◌, ℕ, ◌≤◌, Bool, true, false, cond, leb, List, length, sym, refl, ap, ◌∙◌, arith}
use Rattle.std.proofs.lemmas.Bool.{le-leb, leb-true, cond-true}
use Rattle.vocabulary.specs.declared.faults.Fault.{Fault}
use Rattle.vocabulary.specs.Limits.{most_open}
use Rattle.message.specs.Sources.{Ending, closed, faulted}
use Rattle.markup.specs.Documents.{Document, document_bytes, document_events, element_depth}
use Rattle.markup.specs.Readings.{most_text, text_ending, text_events, Grammatical}
use Rattle.markup.proofs.Told.{document_told}
use Rattle.markup.proofs.Only.{only_documents}

-- what is refused for its length does not close
short : (p : Bool) (e : Ending) (f : Fault) → cond p e (faulted f) ≡ closed → (p ≡ true) × (e ≡ closed)
short true e f h = (refl, h)
short false e f h = absurd cc

all_close : (voc : List (List ℕ)) (d : Document) → element_depth d.root ≤ most_open → length (document_bytes d) ≤ most_text
    → (text_ending voc (document_bytes d) ≡ closed) × (text_events voc (document_bytes d) ≡ document_events voc d)
all_close voc d h l =
    let t : leb (length (document_bytes d)) most_text ≡ true = le-leb _ _ l in
    let e = document_told voc d h in
    (cond-true _ _ _ t ∙ ap (λ r. r.1) e, cond-true _ _ _ t ∙ ap (λ r. r.0) e)

only_close : (voc : List (List ℕ)) (m : List ℕ) → text_ending voc m ≡ closed
    → (d : Document) × (document_bytes d ≡ m) × (element_depth d.root ≤ most_open) × (length m ≤ most_text) × (document_events voc d ≡ text_events voc m)
only_close voc m h =
    let s = short (leb (length m) most_text) _ _ h in
    let d = only_documents voc m s.1 in
    let l : length m ≤ most_text = leb-true _ _ s.0 in
    let k : length (document_bytes d.0) ≤ most_text = omega (arith, ap length d.1) in
    (d.0, d.1, d.2, l, sym (all_close voc d.0 d.2 k).1 ∙ ap (text_events voc) d.1)

pub grammatical : (voc : List (List ℕ)) → Grammatical voc
grammatical voc = record { only = only_close voc; all = all_close voc }
