-- How far markup reaches, and which kinds a tag ends with. Assumes nothing.
use Rattle.std.proofs.Common.{◌≡◌, ℕ, suc, ◌<◌, ◌≤◌, Bool, true, false, cond, eqb, List, [], ◌∷◌, length, get_or, sym, refl, ◌∙◌, subst, arith}
use Rattle.std.proofs.lemmas.Bool.{cond-false}
use Rattle.markup.specs.Bytes.{name_start, name_byte, white}
use Rattle.markup.specs.Grammar.{Kind, opening, empty, closing, comment, instruction}
use Rattle.markup.specs.Tags.{State, at_open, in_name, in_gap, in_word, in_wait, at_value, in_value, at_ended, at_slash, end_first, end_name, end_gap, at_bang, at_bang_dash, in_remark, one_dash, two_dashes, in_order, asking, Move, on, ended, misplaced, misfit, leave, wait, end_leave, after, Scan, cut_short, ends, begins_none, misfits, later, scan_by, scan_from}

-- within n bytes
abbrev pub Reaches : ℕ → Scan → Type 0
Reaches n cut_short = Unit {0}
Reaches n (ends k c) = (0 < c) × (c ≤ n)
Reaches n begins_none = Unit {0}
Reaches n (misfits c) = c < n

reaches_later : (n : ℕ) (x : Scan) → Reaches n x → Reaches (suc n) (later x)
reaches_later n cut_short h = tt
reaches_later n (ends k c) h = (omega arith, omega arith)
reaches_later n begins_none h = tt
reaches_later n (misfits c) h = omega arith

reaches_by : (bs : List ℕ) (m : Move) → ((s : State) → Reaches (length bs) (scan_from s bs)) → Reaches (suc (length bs)) (scan_by m (λ t. scan_from t bs))
reaches_by bs (on s) ih = reaches_later (length bs) (scan_from s bs) (ih s)
reaches_by bs (ended k) ih = (omega arith, omega arith)
reaches_by bs misplaced ih = tt
reaches_by bs misfit ih = omega arith

pub reaches : (s : State) (bs : List ℕ) → Reaches (length bs) (scan_from s bs)
reaches s [] = tt
reaches s (b ∷ bs) = reaches_by bs (after s b) (λ t. reaches t bs)

-- the states of a start tag, and of an end tag
abbrev pub Side : Type 0
Side = State → Bool

abbrev pub starting : State → Bool
starting at_open = false
starting in_name = true
starting in_gap = true
starting in_word = true
starting in_wait = true
starting at_value = true
starting (in_value q) = true
starting at_ended = true
starting at_slash = true
starting end_first = false
starting end_name = false
starting end_gap = false
starting at_bang = false
starting at_bang_dash = false
starting in_remark = false
starting one_dash = false
starting two_dashes = false
starting in_order = false
starting asking = false

abbrev pub ending : State → Bool
ending at_open = false
ending in_name = false
ending in_gap = false
ending in_word = false
ending in_wait = false
ending at_value = false
ending (in_value q) = false
ending at_ended = false
ending at_slash = false
ending end_first = true
ending end_name = true
ending end_gap = true
ending at_bang = false
ending at_bang_dash = false
ending in_remark = false
ending one_dash = false
ending two_dashes = false
ending in_order = false
ending asking = false

-- how a start tag may end
abbrev pub start_kind : Kind → Bool
start_kind opening = true
start_kind empty = true
start_kind closing = false
start_kind comment = false
start_kind instruction = false

abbrev pub end_kind : Kind → Bool
end_kind opening = false
end_kind empty = false
end_kind closing = true
end_kind comment = false
end_kind instruction = false

-- a move that stays on its side
abbrev Stays : Side → (Kind → Bool) → Move → Type 0
Stays side kind (on s) = side s ≡ true
Stays side kind (ended k) = kind k ≡ true
Stays side kind misplaced = Unit {0}
Stays side kind misfit = Unit {0}

abbrev pub Comes : (Kind → Bool) → Scan → Type 0
Comes kind cut_short = Unit {0}
Comes kind (ends k c) = kind k ≡ true
Comes kind begins_none = Unit {0}
Comes kind (misfits c) = Unit {0}

either : (side : Side) (kind : Kind → Bool) (p : Bool) (x y : Move) → Stays side kind x → Stays side kind y → Stays side kind (cond p x y)
either side kind true x y h g = h
either side kind false x y h g = g

abbrev StaysIn : Move → Type 0
StaysIn m = Stays starting start_kind m

leaves : (b : ℕ) → StaysIn (leave b)
leaves b = either starting start_kind (white b) _ _ refl (either starting start_kind (eqb b 47) _ _ refl (either starting start_kind (eqb b 62) _ _ refl tt))

waits : (b : ℕ) → StaysIn (wait b)
waits b = either starting start_kind (white b) _ _ refl (either starting start_kind (eqb b 61) _ _ refl tt)

no_side : {X : Type 0} → ◌≡◌ {A = Bool} false true → X
no_side e = absurd cc

stays : (s : State) (b : ℕ) → starting s ≡ true → StaysIn (after s b)
stays at_open b h = no_side h
stays in_name b h = either starting start_kind (name_byte b) _ _ refl (leaves b)
stays in_gap b h = either starting start_kind (name_start b) _ _ refl (leaves b)
stays in_word b h = either starting start_kind (name_byte b) _ _ refl (waits b)
stays in_wait b h = waits b
stays at_value b h = either starting start_kind (white b) _ _ refl (either starting start_kind (eqb b 39) _ _ refl (either starting start_kind (eqb b 34) _ _ refl tt))
stays (in_value q) b h = either starting start_kind (eqb b q) _ _ refl (either starting start_kind (eqb b 60) _ _ tt refl)
stays at_ended b h = leaves b
stays at_slash b h = either starting start_kind (eqb b 62) _ _ refl tt
stays end_first b h = no_side h
stays end_name b h = no_side h
stays end_gap b h = no_side h
stays at_bang b h = no_side h
stays at_bang_dash b h = no_side h
stays in_remark b h = no_side h
stays one_dash b h = no_side h
stays two_dashes b h = no_side h
stays in_order b h = no_side h
stays asking b h = no_side h

end_leaves : (b : ℕ) → Stays ending end_kind (end_leave b)
end_leaves b = either ending end_kind (white b) _ _ refl (either ending end_kind (eqb b 62) _ _ refl tt)

end_stays : (s : State) (b : ℕ) → ending s ≡ true → Stays ending end_kind (after s b)
end_stays at_open b h = no_side h
end_stays in_name b h = no_side h
end_stays in_gap b h = no_side h
end_stays in_word b h = no_side h
end_stays in_wait b h = no_side h
end_stays at_value b h = no_side h
end_stays (in_value q) b h = no_side h
end_stays at_ended b h = no_side h
end_stays at_slash b h = no_side h
end_stays end_first b h = either ending end_kind (name_start b) _ _ refl tt
end_stays end_name b h = either ending end_kind (name_byte b) _ _ refl (end_leaves b)
end_stays end_gap b h = end_leaves b
end_stays at_bang b h = no_side h
end_stays at_bang_dash b h = no_side h
end_stays in_remark b h = no_side h
end_stays one_dash b h = no_side h
end_stays two_dashes b h = no_side h
end_stays in_order b h = no_side h
end_stays asking b h = no_side h

comes_later : (kind : Kind → Bool) (x : Scan) → Comes kind x → Comes kind (later x)
comes_later kind cut_short h = tt
comes_later kind (ends k c) h = h
comes_later kind begins_none h = tt
comes_later kind (misfits c) h = tt

pub comes_by : (side : Side) (kind : Kind → Bool) (bs : List ℕ) (m : Move) → Stays side kind m → ((s : State) → side s ≡ true → Comes kind (scan_from s bs)) → Comes kind (scan_by m (λ t. scan_from t bs))
comes_by side kind bs (on s) h ih = comes_later kind (scan_from s bs) (ih s h)
comes_by side kind bs (ended k) h ih = h
comes_by side kind bs misplaced h ih = tt
comes_by side kind bs misfit h ih = tt

pub start_comes : (s : State) (bs : List ℕ) → starting s ≡ true → Comes start_kind (scan_from s bs)
start_comes s [] h = tt
start_comes s (b ∷ bs) h = comes_by starting start_kind bs (after s b) (stays s b h) (λ t g. start_comes t bs g)

pub end_comes : (s : State) (bs : List ℕ) → ending s ≡ true → Comes end_kind (scan_from s bs)
end_comes s [] h = tt
end_comes s (b ∷ bs) h = comes_by ending end_kind bs (after s b) (end_stays s b h) (λ t g. end_comes t bs g)

-- the states of comments and instructions, and their kinds
abbrev pub remarking : State → Bool
remarking at_open = false
remarking in_name = false
remarking in_gap = false
remarking in_word = false
remarking in_wait = false
remarking at_value = false
remarking (in_value q) = false
remarking at_ended = false
remarking at_slash = false
remarking end_first = false
remarking end_name = false
remarking end_gap = false
remarking at_bang = true
remarking at_bang_dash = true
remarking in_remark = true
remarking one_dash = true
remarking two_dashes = true
remarking in_order = true
remarking asking = true

abbrev pub quiet_kind : Kind → Bool
quiet_kind opening = false
quiet_kind empty = false
quiet_kind closing = false
quiet_kind comment = true
quiet_kind instruction = true

quiet_stays : (s : State) (b : ℕ) → remarking s ≡ true → Stays remarking quiet_kind (after s b)
quiet_stays at_open b h = no_side h
quiet_stays in_name b h = no_side h
quiet_stays in_gap b h = no_side h
quiet_stays in_word b h = no_side h
quiet_stays in_wait b h = no_side h
quiet_stays at_value b h = no_side h
quiet_stays (in_value q) b h = no_side h
quiet_stays at_ended b h = no_side h
quiet_stays at_slash b h = no_side h
quiet_stays end_first b h = no_side h
quiet_stays end_name b h = no_side h
quiet_stays end_gap b h = no_side h
quiet_stays at_bang b h = either remarking quiet_kind (eqb b 45) _ _ refl tt
quiet_stays at_bang_dash b h = either remarking quiet_kind (eqb b 45) _ _ refl tt
quiet_stays in_remark b h = either remarking quiet_kind (eqb b 45) _ _ refl refl
quiet_stays one_dash b h = either remarking quiet_kind (eqb b 45) _ _ refl refl
quiet_stays two_dashes b h = either remarking quiet_kind (eqb b 62) _ _ refl (either remarking quiet_kind (eqb b 45) _ _ refl refl)
quiet_stays in_order b h = either remarking quiet_kind (eqb b 63) _ _ refl refl
quiet_stays asking b h = either remarking quiet_kind (eqb b 62) _ _ refl (either remarking quiet_kind (eqb b 63) _ _ refl refl)

quiet_from : (s : State) (bs : List ℕ) → remarking s ≡ true → Comes quiet_kind (scan_from s bs)
quiet_from s [] h = tt
quiet_from s (b ∷ bs) h = comes_by remarking quiet_kind bs (after s b) (quiet_stays s b h) (λ t g. quiet_from t bs g)

-- what begins neither a start tag nor an end tag
pub quiet_comes : (bs : List ℕ) → eqb (get_or bs 0 0) 47 ≡ false → name_start (get_or bs 0 0) ≡ false → Comes quiet_kind (scan_from at_open bs)
quiet_comes [] h g = tt
quiet_comes (b ∷ bs) h g =
    let rest = cond (eqb b 33) (on at_bang) (cond (eqb b 63) (on in_order) misplaced) in
    let e : after at_open b ≡ rest = cond-false _ _ _ g ∙ cond-false _ _ _ h in
    let s : Stays remarking quiet_kind rest = either remarking quiet_kind (eqb b 33) _ _ refl (either remarking quiet_kind (eqb b 63) _ _ refl tt) in
    subst (λ m. Comes quiet_kind (scan_by m (λ t. scan_from t bs))) (sym e) (comes_by remarking quiet_kind bs rest s (λ t r. quiet_from t bs r))
