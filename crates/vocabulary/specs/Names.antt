-- Names, and the names of a vocabulary with their codes. A name is a list of bytes. Assumes nothing.
use Rattle.std.specs.Prelude.{◌≡◌, ℕ, zero, suc, ◌+◌, Bool, cond, ◌&&◌, ◌||◌, List, [], ◌∷◌, length, Some, None, Option, MatchOption, ◌==◌, ◌≢◌, nat_le, slice_index_or}
use Rattle.std.specs.List.{prefix_len, slice_get}
use Rattle.std.specs.Str.{bytes_eq}
use Rattle.vocabulary.specs.Limits.{most_name_bytes}

-- a byte from the first to the second
abbrev pub between : ℕ → ℕ → ℕ → Bool
between low high b = nat_le low b && nat_le b high

-- a-z or A-Z
abbrev pub is_letter : ℕ → Bool
is_letter b = between 97 122 b || between 65 90 b

-- a byte that begins a name: a-z, A-Z, `_` or `:`
abbrev pub is_name_start : ℕ → Bool
is_name_start b = between 97 122 b || (between 65 90 b || (b == 95 || b == 58))

-- a byte that goes on in a name: these, 0-9, `-` and `.`
abbrev pub is_name_byte : ℕ → Bool
is_name_byte b = between 48 57 b || (b == 45 || (b == 46 || is_name_start b))

-- how long the name at the front is, read while name bytes last; 0 where none begins
abbrev pub name_size : List ℕ → ℕ
name_size [] = 0
name_size (b ∷ s) = cond (is_name_start b) (1 + prefix_len is_name_byte s) 0

-- a name of 1 to 32 bytes, and nothing after it
abbrev pub is_short_name : List ℕ → Bool
is_short_name s = between 1 most_name_bytes (length s) && name_size s == length s

-- the name of a code: line k, counted from 1
abbrev pub name_of : List (List ℕ) → ℕ → Option (List ℕ)
name_of names zero = None
name_of names (suc k) = slice_get names k

-- the greatest code up to k whose name is s
abbrev pub code_up_to : List (List ℕ) → List ℕ → ℕ → Option ℕ
code_up_to names s zero = None
code_up_to names s (suc k) = cond (bytes_eq (slice_index_or names k []) s) (Some (suc k)) (code_up_to names s k)

-- the code of a name; where no two names are the same there is at most one
abbrev pub code_of : List (List ℕ) → List ℕ → Option ℕ
code_of names s = code_up_to names s (length names)

-- what it is to be the code of s among the names: to name s, and for none that nothing does
abbrev pub IsCode : List (List ℕ) → List ℕ → Option ℕ → Type 0
IsCode names s r = MatchOption r ((k : ℕ) → name_of names k ≢ Some s) (λ k. (name_of names k ≡ Some s) × ((j : ℕ) → name_of names j ≡ Some s → j ≡ k))
