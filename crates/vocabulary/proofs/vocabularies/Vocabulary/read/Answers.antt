use Rattle.vocabulary.proofs.Spelling.{accepts}
use Rattle.vocabulary.proofs.vocabularies.Vocabulary.read.Goals as goal

pub returns-in_err-self-clause-theorem : goal.returns-in_err-self-clause-theorem
returns-in_err-self-clause-theorem c = accepts

pub returns-clause-theorem : goal.returns-clause-theorem
returns-clause-theorem c = accepts
