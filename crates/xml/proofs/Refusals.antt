-- What a `?` hands on. Assumes nothing.
use Rattle.std.proofs.Common.{◌≡◌, Err, Result, ap, ◌∙◌}
use Rattle.std.specs.Result.{IsErrAnd}
use Rattle.std.proofs.lemmas.Result.{err_from_is_err_and}
use Rattle.vocabulary.specs.declared.faults.Fault.{Fault}

pub handed_on : {A : Type 0} {f : Fault} (r : Result A Fault) → IsErrAnd r (λ g. g ≡ f) → r ≡ Err f
handed_on r h = let p = err_from_is_err_and r h in p.1 ∙ ap Err p.2
