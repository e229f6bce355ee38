-- Facts on the bytes that markup tells apart, and markup of any kind. Assumes nothing.
use Rattle.std.proofs.Common.{◌≡◌, ℕ, Bool, true, false, cond, not, ◌&&◌, eqb, List, [], ap, ◌∙◌, arith}
use Rattle.std.proofs.lemmas.Bool.Decides.{nat_tests}
use Rattle.markup.specs.Bytes.{open_angle, name_start, name_byte, white, plain}
use Rattle.markup.specs.Grammar.{Kind, closing, comment, instruction, StartTag, EndTag, Comment, Instruction}

-- what may stand behind a `<`, of this kind and with this name
pub data Markup : Kind → List ℕ → List ℕ → Type 0 where
  starts : {n bs : List ℕ} {k : Kind} → StartTag n k bs → Markup k n bs
  ends : {n bs : List ℕ} → EndTag n bs → Markup closing n bs
  remarks : {bs : List ℕ} → Comment bs → Markup comment [] bs
  orders : {bs : List ℕ} → Instruction bs → Markup instruction [] bs

pub white_name : (b : ℕ) → white b ≡ true → name_byte b ≡ false
unfolding white name_byte
white_name b h = grind (arith, nat_tests)

pub white_start : (b : ℕ) → white b ≡ true → name_start b ≡ false
unfolding white name_start
white_start b h = grind (arith, nat_tests)

pub white_less : (b : ℕ) → white b ≡ true → eqb b open_angle ≡ false
unfolding white
white_less b h = grind (arith, nat_tests)

pub start_name : (b : ℕ) → name_start b ≡ true → name_byte b ≡ true
unfolding name_byte name_start
start_name b h = grind (arith, nat_tests)

pub plain_quote : (q b : ℕ) → plain q b ≡ true → eqb b q ≡ false
plain_quote q b h = grind (arith, nat_tests)

pub plain_less : (q b : ℕ) → plain q b ≡ true → eqb b open_angle ≡ false
plain_less q b h = grind (arith, nat_tests)

pub is_plain : (q b : ℕ) → eqb b q ≡ false → eqb b open_angle ≡ false → plain q b ≡ true
is_plain q b e f = ap (λ x. not x && not (eqb b open_angle)) e ∙ ap not f

-- a test either way round
pub eqb_swap : (a b : ℕ) → eqb a b ≡ false → eqb b a ≡ false
eqb_swap a b h = grind (arith, nat_tests)

-- a test with a yes or no
pub tested : (p : Bool) → cond p true false ≡ false → p ≡ false
tested true h = h
tested false h = h
