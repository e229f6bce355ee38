use Rattle.recording.proofs.Replaying.{faithful}
use Rattle.recording.proofs.words.Recording.new.Goals as goal

pub returns-clause-theorem : goal.returns-clause-theorem
returns-clause-theorem c = faithful
