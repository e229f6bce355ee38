-- The bytes that markup tells apart. Assumes nothing.
use Rattle.std.specs.Prelude.{ℕ, Bool, true, false, cond, not, ◌&&◌, ◌||◌, List, [], ◌∷◌, ◌==◌}
use Rattle.vocabulary.specs.Names.{is_name_start, is_name_byte}

-- `<`, `>`, `/`, `=`, `!`, `-`, `?`
abbrev pub open_angle : ℕ
open_angle = 60

abbrev pub close_angle : ℕ
close_angle = 62

abbrev pub slash : ℕ
slash = 47

abbrev pub equals : ℕ
equals = 61

abbrev pub bang : ℕ
bang = 33

abbrev pub dash : ℕ
dash = 45

abbrev pub ask : ℕ
ask = 63

-- `'` and `"`
abbrev pub apostrophe : ℕ
apostrophe = 39

abbrev pub quotation : ℕ
quotation = 34

-- the bytes of names, shut for proofs
unfoldable pub name_start : ℕ → Bool
name_start b = is_name_start b

unfoldable pub name_byte : ℕ → Bool
name_byte b = is_name_byte b

-- white space
unfoldable pub white : ℕ → Bool
white b = b == 32 || (b == 9 || (b == 13 || b == 10))

-- what a value may hold between two quotes q
abbrev pub plain : ℕ → ℕ → Bool
plain q b = not (b == q) && not (b == open_angle)

-- the second list begins with the first
abbrev pub begins : List ℕ → List ℕ → Bool
begins [] s = true
begins (a ∷ p) [] = false
begins (a ∷ p) (b ∷ s) = cond (a == b) (begins p s) false

-- the bytes in front for which p holds
abbrev pub front : (ℕ → Bool) → List ℕ → List ℕ
front p [] = []
front p (b ∷ bs) = cond (p b) (b ∷ front p bs) []

-- what ends a comment, `-->`, and an instruction, `?>`
abbrev pub comment_end : List ℕ
comment_end = dash ∷ dash ∷ close_angle ∷ []

abbrev pub instruction_end : List ℕ
instruction_end = ask ∷ close_angle ∷ []
