-- Which bytes are a vocabulary, and what the first fault is of those that are none. Assumes nothing.
use Rattle.std.specs.Prelude.{◌≡◌, ℕ, ◌+◌, ◌-◌, ◌<◌, ◌≤◌, Bool, true, cond, not, List, [], ◌∷◌, ◌++◌, length, drop, is_some, Ok, Err, Result, ◌==◌, ◌≢◌, nat_lt, slice_index_or}
use Rattle.std.specs.Borrow.{Bor}
use Rattle.std.specs.List.{flat_map}
use Rattle.vocabulary.specs.declared.faults.Fault.{Fault}
use Rattle.vocabulary.specs.declared.faults.Question.TheVariants.{VocabularySize, LineNotEnded, LineNotName, TooManyNames, NameTwice}
use Rattle.vocabulary.specs.Faults.{fault}
use Rattle.vocabulary.specs.Limits.{most_names}
use Rattle.vocabulary.specs.Names.{between, is_short_name, code_of}

-- the bytes of a vocabulary at most
abbrev pub most_bytes : ℕ
most_bytes = 16384

-- line feed
abbrev pub feed : ℕ
feed = 10

-- a name and the line feed that ends its line
abbrev pub line : List ℕ → List ℕ
line name = name ++ feed ∷ []

-- each is a name of 1 to 32 bytes
abbrev pub EachName : List (List ℕ) → Type 0
EachName names = (k : ℕ) → k < length names → is_short_name (slice_index_or names k []) ≡ true

-- no two are the same
abbrev pub NoTwo : List (List ℕ) → Type 0
NoTwo names = (j k : ℕ) → j < k → k < length names → slice_index_or names j [] ≢ slice_index_or names k []

-- the text has these names, one a line
pub record Spells (text : List ℕ) (names : List (List ℕ)) : Type 0 where
  pub size : (1 ≤ length text) × (length text ≤ most_bytes)
  pub lines : text ≡ flat_map line names
  pub few : length names ≤ most_names
  pub each : EachName names
  pub once : NoTwo names

-- goes on from an answer, or stops at its fault
abbrev pub chain : {X Y E : Type 0} → Result X E → (X → Result Y E) → Result Y E
chain (Ok x) f = f x
chain (Err e) f = Err e

-- whether the name on the line at the place n may follow the names, or its first fault
abbrev pub admitted : List (List ℕ) → ℕ → List ℕ → Result (Unit {0}) Fault
admitted names n name =
    cond (is_short_name name)
    (cond (nat_lt (length names) most_names)
    (cond (is_some (code_of names name)) (Err (fault NameTwice n)) (Ok tt))
    (Err (fault TooManyNames n)))
    (Err (fault LineNotName n))

-- the names so far and those of s, or the first fault; a line has begun at the place n, and `begun` is what it has before s
abbrev pub read_lines : List (List ℕ) → ℕ → List ℕ → List ℕ → Result (List (List ℕ)) Fault
read_lines names n begun [] = cond (length begun == 0) (Ok names) (Err (fault LineNotEnded n))
read_lines names n begun (b ∷ s) =
    cond (b == feed)
    (chain (admitted names n begun) (λ _. read_lines (names ++ begun ∷ []) (n + (length begun + 1)) [] s))
    (read_lines names n (begun ++ b ∷ []) s)

-- the names of a vocabulary, or the first fault
abbrev pub read_names : List ℕ → Result (List (List ℕ)) Fault
read_names text = cond (between 1 most_bytes (length text)) (read_lines [] 0 [] text) (Err (fault VocabularySize 0))

-- exactly the texts that spell names are accepted, with these names
abbrev pub Accepts : Type 0
Accepts = (text : List ℕ) (names : List (List ℕ)) → (read_names text ≡ Ok names → Spells text names) × (Spells text names → read_names text ≡ Ok names)

-- what a reading of the first line of s, which stands at the place n, leaves of the whole: the names and the bytes to go on
-- from, or its fault
abbrev pub LineRead : List ℕ → ℕ → List (List ℕ) → List (List ℕ) → Result (Bor (List ℕ)) Fault → Type 0
LineRead s n before after (Ok rest) = (read_lines before n [] s ≡ read_lines after (n + (length s - length rest.now)) [] rest.now) × (length rest.now < length s) × (rest.now ≡ drop (length s - length rest.now) s)
LineRead s n before after (Err f) = read_lines before n [] s ≡ Err f

-- a byte that does not end a line
abbrev pub is_in_line : ℕ → Bool
is_in_line b = not (b == feed)
