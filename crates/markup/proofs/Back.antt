-- What the machine reads to its end is in the grammar: by state, what may still come. Assumes nothing.
use Rattle.std.proofs.Common.{◌≡◌, ℕ, Bool, true, false, cond, eqb, List, [], ◌∷◌, ◌++◌, sym, refl, ap, subst, append_assoc}
use Rattle.std.proofs.lemmas.Bool.{eqb-true, cond-false, cond_both}
use Rattle.markup.specs.Bytes.{open_angle, close_angle, slash, equals, bang, dash, ask, apostrophe, quotation, name_start, name_byte, white, plain, begins, comment_end, instruction_end}
use Rattle.markup.specs.Grammar.{All, none, more, White, Name, name, Quote, single, double, Value, value, attribute, Attributes, nil, cons, Kind, opening, empty, closing, comment, instruction, Close, plainly, slashed, start_tag, end_tag, Free, remark, order}
use Rattle.markup.specs.Tags.{State, at_open, in_name, in_gap, in_word, in_wait, at_value, at_ended, at_slash, end_first, end_name, end_gap, at_bang, at_bang_dash, in_remark, one_dash, two_dashes, in_order, asking, in_value, Move, on, ended, misplaced, misfit, leave, wait, end_leave, after}
use Rattle.markup.proofs.Runs.{next, final}
use Rattle.markup.proofs.Bytes.{Markup, starts, ends, remarks, orders, is_plain, eqb_swap}

-- behind the name or a value of a start tag
data Tail : Kind → List ℕ → Type 0 where
  tail : {k : Kind} {a w z : List ℕ} → Attributes a → White w → Close k z → Tail k (a ++ (w ++ z))

-- what may still come behind a move
data Rest : Kind → Move → List ℕ → Type 0 where
  r_open : {k : Kind} {n bs : List ℕ} → Markup k n bs → Rest k (on at_open) bs
  r_name : {k : Kind} {i t : List ℕ} → All name_byte i → Tail k t → Rest k (on in_name) (i ++ t)
  r_gap : {k : Kind} {w z : List ℕ} → White w → Close k z → Rest k (on in_gap) (w ++ z)
  r_more : {k : Kind} {w n u v x t : List ℕ} → White w → Name n → White u → White v → Value x → Tail k t → Rest k (on in_gap) (w ++ (n ++ (u ++ (equals ∷ (v ++ (x ++ t))))))
  r_word : {k : Kind} {i u v x t : List ℕ} → All name_byte i → White u → White v → Value x → Tail k t → Rest k (on in_word) (i ++ (u ++ (equals ∷ (v ++ (x ++ t)))))
  r_wait : {k : Kind} {u v x t : List ℕ} → White u → White v → Value x → Tail k t → Rest k (on in_wait) (u ++ (equals ∷ (v ++ (x ++ t))))
  r_value : {k : Kind} {v x t : List ℕ} → White v → Value x → Tail k t → Rest k (on at_value) (v ++ (x ++ t))
  r_in : {k : Kind} {q : ℕ} {x t : List ℕ} → All (plain q) x → Tail k t → Rest k (on (in_value q)) (x ++ (q ∷ t))
  r_ended : {k : Kind} {t : List ℕ} → Tail k t → Rest k (on at_ended) t
  r_slash : Rest empty (on at_slash) (close_angle ∷ [])
  r_end_first : {n w : List ℕ} → Name n → White w → Rest closing (on end_first) (n ++ (w ++ (close_angle ∷ [])))
  r_end_name : {i w : List ℕ} → All name_byte i → White w → Rest closing (on end_name) (i ++ (w ++ (close_angle ∷ [])))
  r_end_gap : {w : List ℕ} → White w → Rest closing (on end_gap) (w ++ (close_angle ∷ []))
  r_bang : (c : List ℕ) → Free comment_end c → Rest comment (on at_bang) (dash ∷ dash ∷ (c ++ comment_end))
  r_bang_dash : (c : List ℕ) → Free comment_end c → Rest comment (on at_bang_dash) (dash ∷ (c ++ comment_end))
  r_remark : (c : List ℕ) → Free comment_end c → Rest comment (on in_remark) (c ++ comment_end)
  r_one : {m : List ℕ} (c : List ℕ) → Free comment_end c → c ++ comment_end ≡ dash ∷ m → Rest comment (on one_dash) m
  r_two : {m : List ℕ} (c : List ℕ) → Free comment_end c → c ++ comment_end ≡ dash ∷ dash ∷ m → Rest comment (on two_dashes) m
  r_order : (c : List ℕ) → Free instruction_end c → Rest instruction (on in_order) (c ++ instruction_end)
  r_ask : {m : List ℕ} (c : List ℕ) → Free instruction_end c → c ++ instruction_end ≡ ask ∷ m → Rest instruction (on asking) m
  r_done : {k : Kind} → Rest k (ended k) []

never : {A : Type 0} {k : Kind} {bs : List ℕ} → Rest k misfit bs → A
never r = absurd (nothing r)
  where
    nothing : {k : Kind} {bs : List ℕ} → Rest k misfit bs → ⊥
    nothing r = elim r [ ]

nowhere : {A : Type 0} {k : Kind} {bs : List ℕ} → Rest k misplaced bs → A
nowhere r = absurd (nothing r)
  where
    nothing : {k : Kind} {bs : List ℕ} → Rest k misplaced bs → ⊥
    nothing r = elim r [ ]

-- a test of the byte itself: a goal about the byte is one about the number
at : (P : ℕ → Type 0) (b q : ℕ) → P q → eqb b q ≡ true → P b
at P b q h e = subst P (sym (eqb-true b q e)) h

-- each transition, backwards
gap_gap : {k : Kind} {b : ℕ} {bs : List ℕ} → white b ≡ true → Rest k (on in_gap) bs → Rest k (on in_gap) (b ∷ bs)
gap_gap h (r_gap w z) = r_gap (more h w) z
gap_gap h (r_more w n u v x t) = r_more (more h w) n u v x t

gap_word : {k : Kind} {b : ℕ} {bs : List ℕ} → name_start b ≡ true → Rest k (on in_word) bs → Rest k (on in_gap) (b ∷ bs)
gap_word h (r_word i u v x t) = r_more none (name h i) u v x t

tail_gap : {k : Kind} {b : ℕ} {bs : List ℕ} → white b ≡ true → Rest k (on in_gap) bs → Tail k (b ∷ bs)
tail_gap h (r_gap w z) = tail nil (more h w) z
tail_gap {k} {b} h (r_more ws ns us vs xs (tail a es zs)) =
    subst (λ y. Tail k (b ∷ y)) (simp append_assoc) (tail (cons (attribute h ws ns us vs xs) a) es zs)

tail_slash : {k : Kind} {bs : List ℕ} → Rest k (on at_slash) bs → Tail k (slash ∷ bs)
tail_slash r_slash = tail nil none slashed

tail_close : {k : Kind} {bs : List ℕ} → Rest k (ended opening) bs → Tail k (close_angle ∷ bs)
tail_close r_done = tail nil none plainly

gap_slash : {k : Kind} {bs : List ℕ} → Rest k (on at_slash) bs → Rest k (on in_gap) (slash ∷ bs)
gap_slash r_slash = r_gap none slashed

gap_close : {k : Kind} {bs : List ℕ} → Rest k (ended opening) bs → Rest k (on in_gap) (close_angle ∷ bs)
gap_close r_done = r_gap none plainly

name_name : {k : Kind} {b : ℕ} {bs : List ℕ} → name_byte b ≡ true → Rest k (on in_name) bs → Rest k (on in_name) (b ∷ bs)
name_name h (r_name i t) = r_name (more h i) t

word_word : {k : Kind} {b : ℕ} {bs : List ℕ} → name_byte b ≡ true → Rest k (on in_word) bs → Rest k (on in_word) (b ∷ bs)
word_word h (r_word i u v x t) = r_word (more h i) u v x t

wait_wait : {k : Kind} {b : ℕ} {bs : List ℕ} → white b ≡ true → Rest k (on in_wait) bs → Rest k (on in_wait) (b ∷ bs)
wait_wait h (r_wait u v x t) = r_wait (more h u) v x t

wait_value : {k : Kind} {bs : List ℕ} → Rest k (on at_value) bs → Rest k (on in_wait) (equals ∷ bs)
wait_value (r_value v x t) = r_wait none v x t

word_wait : {k : Kind} {bs : List ℕ} → Rest k (on in_wait) bs → Rest k (on in_word) bs
word_wait (r_wait u v x t) = r_word none u v x t

value_value : {k : Kind} {b : ℕ} {bs : List ℕ} → white b ≡ true → Rest k (on at_value) bs → Rest k (on at_value) (b ∷ bs)
value_value h (r_value v x t) = r_value (more h v) x t

value_in : {k : Kind} {q : ℕ} {bs : List ℕ} → Quote q → Rest k (on (in_value q)) bs → Rest k (on at_value) (q ∷ bs)
value_in {k} {q} h (r_in x t) = subst (λ y. Rest k (on at_value) (q ∷ y)) (simp append_assoc) (r_value none (value h x) t)

in_in : {k : Kind} {b q : ℕ} {bs : List ℕ} → plain q b ≡ true → Rest k (on (in_value q)) bs → Rest k (on (in_value q)) (b ∷ bs)
in_in h (r_in x t) = r_in (more h x) t

in_ended : {k : Kind} {q : ℕ} {bs : List ℕ} → Rest k (on at_ended) bs → Rest k (on (in_value q)) (q ∷ bs)
in_ended (r_ended t) = r_in none t

slash_done : {k : Kind} {bs : List ℕ} → Rest k (ended empty) bs → Rest k (on at_slash) (close_angle ∷ bs)
slash_done r_done = r_slash

open_name : {k : Kind} {b : ℕ} {bs : List ℕ} → name_start b ≡ true → Rest k (on in_name) bs → Rest k (on at_open) (b ∷ bs)
open_name h (r_name i (tail a w z)) = r_open (starts (start_tag (name h i) a w z))

open_end : {k : Kind} {bs : List ℕ} → Rest k (on end_first) bs → Rest k (on at_open) (slash ∷ bs)
open_end (r_end_first n w) = r_open (ends (end_tag n w))

open_bang : {k : Kind} {bs : List ℕ} → Rest k (on at_bang) bs → Rest k (on at_open) (bang ∷ bs)
open_bang (r_bang c h) = r_open (remarks (remark c h))

open_order : {k : Kind} {bs : List ℕ} → Rest k (on in_order) bs → Rest k (on at_open) (ask ∷ bs)
open_order (r_order c h) = r_open (orders (order c h))

end_first_lem : {k : Kind} {b : ℕ} {bs : List ℕ} → name_start b ≡ true → Rest k (on end_name) bs → Rest k (on end_first) (b ∷ bs)
end_first_lem h (r_end_name i w) = r_end_first (name h i) w

end_name_lem : {k : Kind} {b : ℕ} {bs : List ℕ} → name_byte b ≡ true → Rest k (on end_name) bs → Rest k (on end_name) (b ∷ bs)
end_name_lem h (r_end_name i w) = r_end_name (more h i) w

end_gap_lem : {k : Kind} {b : ℕ} {bs : List ℕ} → white b ≡ true → Rest k (on end_gap) bs → Rest k (on end_gap) (b ∷ bs)
end_gap_lem h (r_end_gap w) = r_end_gap (more h w)

end_leave_lem : {k : Kind} {bs : List ℕ} → Rest k (on end_gap) bs → Rest k (on end_name) bs
end_leave_lem (r_end_gap w) = r_end_name none w

end_done : {k : Kind} {bs : List ℕ} → Rest k (ended closing) bs → Rest k (on end_gap) (close_angle ∷ bs)
end_done r_done = r_end_gap none

bang_dash : {k : Kind} {bs : List ℕ} → Rest k (on at_bang_dash) bs → Rest k (on at_bang) (dash ∷ bs)
bang_dash (r_bang_dash c h) = r_bang c h

dash_remark : {k : Kind} {bs : List ℕ} → Rest k (on in_remark) bs → Rest k (on at_bang_dash) (dash ∷ bs)
dash_remark (r_remark c h) = r_bang_dash c h

-- a byte that is not the one of the end at its place
misses : (a b : ℕ) (p : Bool) → eqb b a ≡ false → cond (eqb a b) p false ≡ false
misses a b p e = cond-false _ _ _ (eqb_swap b a e)

remark_remark : {k : Kind} {b : ℕ} {bs : List ℕ} → eqb b dash ≡ false → Rest k (on in_remark) bs → Rest k (on in_remark) (b ∷ bs)
remark_remark {b = b} e (r_remark c h) = r_remark (b ∷ c) (misses dash b _ e, h)

remark_one : {k : Kind} {bs : List ℕ} → Rest k (on one_dash) bs → Rest k (on in_remark) (dash ∷ bs)
remark_one (r_one c h i) = subst (Rest comment (on in_remark)) i (r_remark c h)

one_remark : {k : Kind} {b : ℕ} {bs : List ℕ} → eqb b dash ≡ false → Rest k (on in_remark) bs → Rest k (on one_dash) (b ∷ bs)
one_remark {b = b} e (r_remark c h) = r_one (dash ∷ b ∷ c) (misses dash b _ e, (misses dash b _ e, h)) refl

one_two : {k : Kind} {bs : List ℕ} → Rest k (on two_dashes) bs → Rest k (on one_dash) (dash ∷ bs)
one_two (r_two c h i) = r_one c h i

two_done : {k : Kind} {bs : List ℕ} → Rest k (ended comment) bs → Rest k (on two_dashes) (close_angle ∷ bs)
two_done r_done = r_two [] tt refl

two_remark : {k : Kind} {b : ℕ} {bs : List ℕ} → eqb b close_angle ≡ false → eqb b dash ≡ false → Rest k (on in_remark) bs → Rest k (on two_dashes) (b ∷ bs)
two_remark {b = b} f e (r_remark c h) = r_two (dash ∷ dash ∷ b ∷ c) (misses close_angle b _ f, (misses dash b _ e, (misses dash b _ e, h))) refl

-- three dashes begin no end
dashes_free : (c m : List ℕ) → c ++ comment_end ≡ dash ∷ dash ∷ m → begins comment_end (dash ∷ c) ≡ false
dashes_free [] m i = refl
dashes_free (x ∷ []) m i = let e : x ≡ dash = cc in λ j. begins comment_end (dash ∷ e j ∷ [])
dashes_free (x ∷ y ∷ c) m i = let e : x ≡ dash = cc in let f : y ≡ dash = cc in λ j. begins comment_end (dash ∷ e j ∷ f j ∷ c)

two_two : {k : Kind} {bs : List ℕ} → Rest k (on two_dashes) bs → Rest k (on two_dashes) (dash ∷ bs)
two_two {bs = m} (r_two c h i) = r_two (dash ∷ c) (dashes_free c m i, h) (ap (λ x. dash ∷ x) i)

order_order : {k : Kind} {b : ℕ} {bs : List ℕ} → eqb b ask ≡ false → Rest k (on in_order) bs → Rest k (on in_order) (b ∷ bs)
order_order {b = b} e (r_order c h) = r_order (b ∷ c) (misses ask b _ e, h)

order_ask : {k : Kind} {bs : List ℕ} → Rest k (on asking) bs → Rest k (on in_order) (ask ∷ bs)
order_ask (r_ask c h i) = subst (Rest instruction (on in_order)) i (r_order c h)

ask_done : {k : Kind} {bs : List ℕ} → Rest k (ended instruction) bs → Rest k (on asking) (close_angle ∷ bs)
ask_done r_done = r_ask [] tt refl

ask_order : {k : Kind} {b : ℕ} {bs : List ℕ} → eqb b close_angle ≡ false → eqb b ask ≡ false → Rest k (on in_order) bs → Rest k (on asking) (b ∷ bs)
ask_order {b = b} f e (r_order c h) = r_ask (ask ∷ b ∷ c) (misses close_angle b _ f, (misses ask b _ e, h)) refl

asks_free : (c m : List ℕ) → c ++ instruction_end ≡ ask ∷ m → begins instruction_end (ask ∷ c) ≡ false
asks_free [] m i = refl
asks_free (x ∷ c) m i = let e : x ≡ ask = cc in λ j. begins instruction_end (ask ∷ e j ∷ c)

ask_ask : {k : Kind} {bs : List ℕ} → Rest k (on asking) bs → Rest k (on asking) (ask ∷ bs)
ask_ask {bs = m} (r_ask c h i) = r_ask (ask ∷ c) (asks_free c m i, h) (ap (λ x. ask ∷ x) i)

-- from the moves of a choice one comes to T
abbrev Way : Kind → ℕ → List ℕ → (ℕ → Type 0) → Move → Type 0
Way k b bs T v = Rest k v bs → T b

module _ (k : Kind) (b : ℕ) (bs : List ℕ) where
  abbrev from : State → ℕ → Type 0
  from s x = Rest k (on s) (x ∷ bs)

  abbrev tails : ℕ → Type 0
  tails x = Tail k (x ∷ bs)

  when : (T : ℕ → Type 0) (q : ℕ) (x y : Move) → (Rest k x bs → T q) → (eqb b q ≡ false → Way k b bs T y) → Way k b bs T (cond (eqb b q) x y)
  when T q x y f g = cond_both (eqb b q) x y (Way k b bs T) (λ e r. at T b q (f r) e) g

  if : (T : ℕ → Type 0) (p : ℕ → Bool) (x y : Move) → (p b ≡ true → Rest k x bs → T b) → Way k b bs T y → Way k b bs T (cond (p b) x y)
  if T p x y f g = cond_both (p b) x y (Way k b bs T) f (λ _. g)

  leaves : Rest k (leave b) bs → Tail k (b ∷ bs)
  leaves = if tails white _ _ tail_gap (when tails slash _ _ tail_slash λ _. when tails close_angle _ _ tail_close λ _. never)

  gap_leaves : Rest k (leave b) bs → Rest k (on in_gap) (b ∷ bs)
  gap_leaves = if (from in_gap) white _ _ gap_gap (when (from in_gap) slash _ _ gap_slash λ _. when (from in_gap) close_angle _ _ gap_close λ _. never)

  waits : Rest k (wait b) bs → Rest k (on in_wait) (b ∷ bs)
  waits = if (from in_wait) white _ _ wait_wait (when (from in_wait) equals _ _ wait_value λ _. never)

  end_leaves : Rest k (end_leave b) bs → Rest k (on end_gap) (b ∷ bs)
  end_leaves = if (from end_gap) white _ _ end_gap_lem (when (from end_gap) close_angle _ _ end_done λ _. never)

  back : (s : State) → Rest k (after s b) bs → Rest k (on s) (b ∷ bs)
  back at_open = if (from at_open) name_start _ _ open_name (when (from at_open) slash _ _ open_end λ _. when (from at_open) bang _ _ open_bang λ _. when (from at_open) ask _ _ open_order λ _. nowhere)
  back in_name = if (from in_name) name_byte _ _ name_name λ r. r_name none (leaves r)
  back in_gap = if (from in_gap) name_start _ _ gap_word gap_leaves
  back in_word = if (from in_word) name_byte _ _ word_word λ r. word_wait (waits r)
  back in_wait = waits
  back at_value = if (from at_value) white _ _ value_value (when (from at_value) apostrophe _ _ (value_in single) λ _. when (from at_value) quotation _ _ (value_in double) λ _. never)
  back (in_value q) = when (from (in_value q)) q _ _ in_ended λ e. cond_both (eqb b open_angle) _ _ (Way k b bs (from (in_value q))) (λ _. never) λ f. in_in (is_plain q b e f)
  back at_ended = λ r. r_ended (leaves r)
  back at_slash = when (from at_slash) close_angle _ _ slash_done λ _. never
  back end_first = if (from end_first) name_start _ _ end_first_lem never
  back end_name = if (from end_name) name_byte _ _ end_name_lem λ r. end_leave_lem (end_leaves r)
  back end_gap = end_leaves
  back at_bang = when (from at_bang) dash _ _ bang_dash λ _. nowhere
  back at_bang_dash = when (from at_bang_dash) dash _ _ dash_remark λ _. nowhere
  back in_remark = when (from in_remark) dash _ _ remark_one remark_remark
  back one_dash = when (from one_dash) dash _ _ one_two one_remark
  back two_dashes = when (from two_dashes) close_angle _ _ two_done λ f. when (from two_dashes) dash _ _ two_two (two_remark f)
  back in_order = when (from in_order) ask _ _ order_ask order_order
  back asking = when (from asking) close_angle _ _ ask_done λ f. when (from asking) ask _ _ ask_ask (ask_order f)

  steps : (v : Move) → Rest k (next v b) bs → Rest k v (b ∷ bs)
  steps (on s) = back s
  steps (ended j) = never
  steps misplaced = never
  steps misfit = never

-- what the machine reads to its end may come
may : (k : Kind) (v : Move) (bs : List ℕ) → final v bs ≡ ended k → Rest k v bs
may k v [] h = subst (λ x. Rest k x []) (sym h) r_done
may k v (b ∷ bs) h = steps k b bs v (may k (next v b) bs h)

pub record Found (k : Kind) (bs : List ℕ) : Type 0 where
  pub called : List ℕ
  pub is : Markup k called bs

found : {k : Kind} {bs : List ℕ} → Rest k (on at_open) bs → Found k bs
found (r_open {n = n} m) = record { called = n; is = m }

pub accepted : (k : Kind) (bs : List ℕ) → final (on at_open) bs ≡ ended k → Found k bs
accepted k bs h = found (may k (on at_open) bs h)
