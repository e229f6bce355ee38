-- What a host is answered, by three byte strings alone. Assumes nothing.
use Rattle.std.specs.Prelude.{ℕ, ◌+◌, ◌*◌, Bool, true, false, List, Ok, Err, Result}
use Rattle.vocabulary.specs.declared.faults.Fault.{Fault}
use Rattle.vocabulary.specs.Faults.{number_of}
use Rattle.vocabulary.specs.Vocabularies.{chain, read_names}
use Rattle.filter_text.specs.Reads.{read_steps}
use Rattle.message.specs.Answers.{at_ending}
use Rattle.message.specs.Elements.{hits}
use Rattle.markup.specs.Readings.{text_events, text_ending}

-- the first fault of the vocabulary, the filter or the message, or whether the filter hits
abbrev pub asked : List ℕ → List ℕ → List ℕ → Result Bool Fault
asked vocabulary filter message =
    chain (read_names vocabulary) (λ names. chain (read_steps names filter) (λ steps. at_ending (text_ending names message) (hits steps (text_events names message))))

-- 1 for a hit, 0 for none, else the fault's number and place
abbrev pub told : Result Bool Fault → ℕ
told (Ok true) = 1
told (Ok false) = 0
told (Err f) = number_of f.question * 4294967296 + f.place

abbrev pub host_answer : List ℕ → List ℕ → List ℕ → ℕ
host_answer vocabulary filter message = told (asked vocabulary filter message)
