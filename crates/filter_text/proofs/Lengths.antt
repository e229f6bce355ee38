-- A length that is answered is the text's, and each step has a text. Assumes nothing.
use Rattle.std.proofs.Common.{◌≡◌, ℕ, List, length, Some, None, Ok, Option, refl, sym}
use Rattle.filter.specs.declared.steps.Step.{Step}
use Rattle.filter_text.specs.Texts.{text_of, unknown_from}
use Rattle.filter_text.specs.Writes.{unless_unknown, text_length}

length_by : (n m : ℕ) (o : Option ℕ) → unless_unknown o m ≡ Ok n → (o ≡ None) × (n ≡ m)
length_by n m None e = (refl, (let z : m ≡ n = cc in sym z))
length_by n m (Some k) e = absurd cc

pub length_ok : (names : List (List ℕ)) (ss : List Step) (n : ℕ) → text_length names ss ≡ Ok n → (unknown_from names 1 ss ≡ None) × (n ≡ length (text_of names ss))
length_ok names ss n e = length_by n (length (text_of names ss)) (unknown_from names 1 ss) e
