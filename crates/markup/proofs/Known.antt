-- What the class of a byte tells. Assumes nothing.
use Rattle.std.proofs.Common.{ℕ, arith}
use Rattle.std.proofs.lemmas.Bool.Decides.{nat_tests}
use Rattle.markup.specs.Bytes.{name_start, name_byte, white}
use Rattle.markup.specs.Classes.{class_of, Known}

pub known : (b : ℕ) → Known (class_of b) b
unfolding name_start name_byte white
known b = record {
  start = grind (arith, nat_tests);
  name = grind (arith, nat_tests);
  gap = grind (arith, nat_tests);
  b61 = grind (arith, nat_tests);
  b39 = grind (arith, nat_tests);
  b34 = grind (arith, nat_tests);
  b47 = grind (arith, nat_tests);
  b62 = grind (arith, nat_tests);
  b60 = grind (arith, nat_tests);
}
