-- The grammar of tags, comments and instructions: each rule with the bytes that it stands for. Assumes nothing.
use Rattle.std.specs.Prelude.{◌≡◌, ℕ, Bool, true, false, List, [], ◌∷◌, ◌++◌}
use Rattle.markup.specs.Bytes.{close_angle, slash, equals, bang, dash, ask, apostrophe, quotation, name_start, name_byte, white, plain, begins, comment_end, instruction_end}

-- bytes for which p holds
pub data All (p : ℕ → Bool) : List ℕ → Type 0 where
  none : All p []
  more : {b : ℕ} {bs : List ℕ} → p b ≡ true → All p bs → All p (b ∷ bs)

abbrev pub White : List ℕ → Type 0
White = All white

pub data Name : List ℕ → Type 0 where
  name : {b : ℕ} {bs : List ℕ} → name_start b ≡ true → All name_byte bs → Name (b ∷ bs)

pub data Quote : ℕ → Type 0 where
  single : Quote apostrophe
  double : Quote quotation

-- a value between two quotes, with neither its own quote nor `<` in it
pub data Value : List ℕ → Type 0 where
  value : {q : ℕ} {bs : List ℕ} → Quote q → All (plain q) bs → Value (q ∷ (bs ++ (q ∷ [])))

-- white space, a name, `=` with white space around it, and a value
pub data Attribute : List ℕ → Type 0 where
  attribute : {b : ℕ} {w n u v x : List ℕ} → white b ≡ true → White w → Name n → White u → White v → Value x → Attribute (b ∷ (w ++ (n ++ (u ++ (equals ∷ (v ++ x))))))

pub data Attributes : List ℕ → Type 0 where
  nil : Attributes []
  cons : {a s : List ℕ} → Attribute a → Attributes s → Attributes (a ++ s)

-- what a `<` begins
pub data Kind : Type 0 where
  opening empty closing comment instruction : Kind

-- how a start tag ends: `>`, or `/>` where the element is empty
pub data Close : Kind → List ℕ → Type 0 where
  plainly : Close opening (close_angle ∷ [])
  slashed : Close empty (slash ∷ close_angle ∷ [])

-- what stands behind the `<` of a start tag with the name n
pub data StartTag : List ℕ → Kind → List ℕ → Type 0 where
  start_tag : {n a w z : List ℕ} {k : Kind} → Name n → Attributes a → White w → Close k z → StartTag n k (n ++ (a ++ (w ++ z)))

-- what stands behind the `<` of an end tag with the name n
pub data EndTag : List ℕ → List ℕ → Type 0 where
  end_tag : {n w : List ℕ} → Name n → White w → EndTag n (slash ∷ (n ++ (w ++ (close_angle ∷ []))))

-- the bytes nowhere hold w
abbrev pub Free : List ℕ → List ℕ → Type 0
Free w [] = Unit {0}
Free w (b ∷ bs) = (begins w (b ∷ bs) ≡ false) × Free w bs

-- what stands behind the `<` of a comment: `!--`, then up to the first `-->`
pub data Comment : List ℕ → Type 0 where
  remark : (c : List ℕ) → Free comment_end c → Comment (bang ∷ dash ∷ dash ∷ (c ++ comment_end))

-- what stands behind the `<` of an instruction: `?`, then up to the first `?>`
pub data Instruction : List ℕ → Type 0 where
  order : (c : List ℕ) → Free instruction_end c → Instruction (ask ∷ (c ++ instruction_end))
