-- A reader from the beginning reads by the grammar of documents. Assumes nothing.
use Rattle.vocabulary.specs.Readings.{names_of}
use Rattle.markup.proofs.Grammatical.{grammatical}
use Rattle.xml.proofs.texts.TextReader.new.Goals as goal

pub returns-clause-theorem : goal.returns-clause-theorem
returns-clause-theorem c = grammatical (names_of c.args.vocabulary.now)
