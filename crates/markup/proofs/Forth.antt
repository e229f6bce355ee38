-- What is in the grammar the machine reads to its end, and finds its name. Assumes nothing.
use Rattle.std.proofs.Common.{◌≡◌, ℕ, Bool, true, cond, eqb, List, [], ◌∷◌, ◌++◌, sym, refl, ap, ◌∙◌, subst, append_assoc}
use Rattle.std.proofs.lemmas.Bool.{eqb-true, eq-eqb, cond-true, cond-false, cond_both}
use Rattle.markup.specs.Bytes.{close_angle, slash, equals, dash, ask, name_start, name_byte, white, plain, front, comment_end, instruction_end}
use Rattle.markup.specs.Grammar.{All, none, more, White, Name, name, Quote, single, double, Value, value, Attribute, attribute, Attributes, nil, cons, Kind, opening, closing, comment, instruction, Close, plainly, slashed, StartTag, start_tag, EndTag, end_tag, Free, Comment, remark, Instruction, order}
use Rattle.markup.specs.Tags.{State, at_open, in_name, in_gap, in_word, in_wait, at_value, at_ended, at_slash, end_first, end_name, end_gap, in_remark, one_dash, two_dashes, in_order, asking, in_value, Move, on, ended, after, name_in}
use Rattle.markup.proofs.Runs.{final}
use Rattle.markup.proofs.Bytes.{Markup, starts, ends, remarks, orders, white_name, white_start, start_name, plain_quote, plain_less, eqb_swap, tested}

-- a byte, and then the others
goes : (s : State) (v : Move) (b : ℕ) (t : List ℕ) → after s b ≡ v → final (on s) (b ∷ t) ≡ final v t
goes s v b t h = ap (λ y. final y t) h

stays : (p : ℕ → Bool) (s : State) → ((b : ℕ) → p b ≡ true → after s b ≡ on s) → {w : List ℕ} → All p w → (t : List ℕ) → final (on s) (w ++ t) ≡ final (on s) t
stays p s h none t = refl
stays p s h (more {b = b} {bs = bs} e w) t = goes s (on s) b (bs ++ t) (h b e) ∙ stays p s h w t

-- where a start tag may go on to its end or to an attribute
record Between (s : State) : Type 0 where
  gap : (b : ℕ) → white b ≡ true → after s b ≡ on in_gap
  slashing : after s slash ≡ on at_slash
  shut : after s close_angle ≡ ended opening

at_name : Between in_name
unfolding name_byte white
at_name = record { gap = λ b h. cond-false _ _ _ (white_name b h) ∙ cond-true _ _ _ h; slashing = refl; shut = refl }

at_gap : Between in_gap
unfolding name_start white
at_gap = record { gap = λ b h. cond-false _ _ _ (white_start b h) ∙ cond-true _ _ _ h; slashing = refl; shut = refl }

at_ended_lem : Between at_ended
unfolding white
at_ended_lem = record { gap = λ b h. cond-true _ _ _ h; slashing = refl; shut = refl }

closes : {s : State} {k : Kind} {z : List ℕ} → Between s → Close k z → final (on s) z ≡ ended k
closes h plainly = h.shut
closes {s} h slashed = goes s (on at_slash) slash (close_angle ∷ []) h.slashing

lasts : {s : State} {k : Kind} {w z : List ℕ} → Between s → White w → Close k z → final (on s) (w ++ z) ≡ ended k
lasts h none z = closes h z
lasts {s} {k} {w} {z} h (more {b = b} {bs = bs} e w') z' =
    goes s (on in_gap) b (bs ++ z) (h.gap b e) ∙ stays white in_gap at_gap.gap w' z ∙ closes at_gap z'

equalled : {u : List ℕ} → White u → (t : List ℕ) → final (on in_word) (u ++ (equals ∷ t)) ≡ final (on at_value) t
unfolding name_byte white
equalled none t = refl
equalled (more {b = b} {bs = bs} e u) t =
    goes in_word (on in_wait) b (bs ++ (equals ∷ t)) (cond-false _ _ _ (white_name b e) ∙ cond-true _ _ _ e) ∙ stays white in_wait (λ c h. cond-true _ _ _ h) u (equals ∷ t)

quoted : {q : ℕ} → Quote q → (t : List ℕ) → final (on at_value) (q ∷ t) ≡ final (on (in_value q)) t
unfolding white
quoted single t = refl
quoted double t = refl

valued : {x : List ℕ} → Value x → (t : List ℕ) → final (on at_value) (x ++ t) ≡ final (on at_ended) t
valued (value {q = q} {bs = bs} h i) t =
    ap (λ y. final (on at_value) (q ∷ y)) (append_assoc bs (q ∷ []) t) ∙ quoted h (bs ++ (q ∷ t))
    ∙ stays (plain q) (in_value q) (λ b e. cond-false _ _ _ (plain_quote q b e) ∙ cond-false _ _ _ (plain_less q b e)) i (q ∷ t)
    ∙ goes (in_value q) (on at_ended) q t (cond-true _ _ _ (eq-eqb q q refl))

named : {n : List ℕ} → Name n → (t : List ℕ) → final (on in_gap) (n ++ t) ≡ final (on in_word) t
named (name {b = b} {bs = bs} h i) t = goes in_gap (on in_word) b (bs ++ t) (cond-true _ _ _ h) ∙ stays name_byte in_word (λ c e. cond-true _ _ _ e) i t

attributed : {s : State} {a : List ℕ} → Between s → Attribute a → (t : List ℕ) → final (on s) (a ++ t) ≡ final (on at_ended) t
attributed {s} h (attribute {b = b} {w = w} {n = n} {u = u} {v = v} {x = x} e ws ns us vs xs) t =
    let t₁ = x ++ t in
    let t₂ = v ++ t₁ in
    let t₃ = u ++ (equals ∷ t₂) in
    let t₄ = n ++ t₃ in
    ap (λ y. final (on s) (b ∷ y)) flat ∙ goes s (on in_gap) b (w ++ t₄) (h.gap b e) ∙ stays white in_gap at_gap.gap ws t₄ ∙ named ns t₃ ∙ equalled us t₂
    ∙ stays white at_value (λ c e. cond-true _ _ _ e) vs t₁ ∙ valued xs t
  where
    flat : (w ++ (n ++ (u ++ (equals ∷ (v ++ x))))) ++ t ≡ w ++ (n ++ (u ++ (equals ∷ (v ++ (x ++ t)))))
    flat = simp append_assoc

tailed : {s : State} {k : Kind} {a w z : List ℕ} → Between s → Attributes a → White w → Close k z → final (on s) (a ++ (w ++ z)) ≡ ended k
tailed h nil w z = lasts h w z
tailed {s} {k} {a} {w} {z} h (cons {a = c} {s = r} x y) w' z' =
    ap (final (on s)) (append_assoc c r (w ++ z)) ∙ attributed h x (r ++ (w ++ z)) ∙ tailed at_ended_lem y w' z'

started : {k : Kind} {n bs : List ℕ} → StartTag n k bs → final (on at_open) bs ≡ ended k
started (start_tag {n = n} {a = a} {w = w} {z = z} (name {b = b} {bs = i} h is) as' ws zs) =
    goes at_open (on in_name) b (i ++ (a ++ (w ++ z))) (cond-true _ _ _ h) ∙ stays name_byte in_name (λ c e. cond-true _ _ _ e) is (a ++ (w ++ z)) ∙ tailed at_name as' ws zs

end_lasts : {w : List ℕ} → White w → final (on end_name) (w ++ (close_angle ∷ [])) ≡ ended closing
unfolding name_byte white
end_lasts none = refl
end_lasts (more {b = b} {bs = bs} e w) =
    goes end_name (on end_gap) b (bs ++ (close_angle ∷ [])) (cond-false _ _ _ (white_name b e) ∙ cond-true _ _ _ e) ∙ stays white end_gap (λ c h. cond-true _ _ _ h) w (close_angle ∷ [])

shuts : {n bs : List ℕ} → EndTag n bs → final (on at_open) bs ≡ ended closing
unfolding name_start
shuts (end_tag {w = w} (name {b = b} {bs = i} h is) ws) =
    goes end_first (on end_name) b (i ++ (w ++ (close_angle ∷ []))) (cond-true _ _ _ h) ∙ stays name_byte end_name (λ c e. cond-true _ _ _ e) is (w ++ (close_angle ∷ [])) ∙ end_lasts ws

-- a comment from each of its states on, where c with the dashes before it holds no end
abbrev Noted : State → List ℕ → Type 0
Noted s c = final (on s) (c ++ comment_end) ≡ ended comment

abbrev Led : Kind → List ℕ → Move → Type 0
Led k t v = final v t ≡ ended k

mutual
  remark_ends : (c : List ℕ) → Free comment_end c → Noted in_remark c
  remark_ends [] h = refl
  remark_ends (b ∷ c) h =
      cond_both (eqb b dash) (on one_dash) (on in_remark) (Led comment (c ++ comment_end))
      (λ e. dash_ends c (subst (λ x. Free comment_end (x ∷ c)) (eqb-true b dash e) h))
      (λ e. remark_ends c h.1)

  dash_ends : (c : List ℕ) → Free comment_end (dash ∷ c) → Noted one_dash c
  dash_ends [] h = refl
  dash_ends (b ∷ c) h =
      cond_both (eqb b dash) (on two_dashes) (on in_remark) (Led comment (c ++ comment_end))
      (λ e. dashes_end c (subst (λ x. Free comment_end (dash ∷ x ∷ c)) (eqb-true b dash e) h))
      (λ e. remark_ends c h.1.1)

  dashes_end : (c : List ℕ) → Free comment_end (dash ∷ dash ∷ c) → Noted two_dashes c
  dashes_end [] h = refl
  dashes_end (b ∷ c) h =
      subst (Led comment (c ++ comment_end)) (sym (cond-false (eqb b close_angle) (ended comment) (cond (eqb b dash) (on two_dashes) (on in_remark)) (eqb_swap close_angle b (tested _ h.0))))
      (cond_both (eqb b dash) (on two_dashes) (on in_remark) (Led comment (c ++ comment_end))
      (λ e. dashes_end c (subst (λ x. Free comment_end (dash ∷ x ∷ c)) (eqb-true b dash e) h.1))
      (λ e. remark_ends c h.1.1.1))

-- an instruction in the same way
abbrev Ordered : State → List ℕ → Type 0
Ordered s c = final (on s) (c ++ instruction_end) ≡ ended instruction

mutual
  order_ends : (c : List ℕ) → Free instruction_end c → Ordered in_order c
  order_ends [] h = refl
  order_ends (b ∷ c) h =
      cond_both (eqb b ask) (on asking) (on in_order) (Led instruction (c ++ instruction_end))
      (λ e. ask_ends c (subst (λ x. Free instruction_end (x ∷ c)) (eqb-true b ask e) h))
      (λ e. order_ends c h.1)

  ask_ends : (c : List ℕ) → Free instruction_end (ask ∷ c) → Ordered asking c
  ask_ends [] h = refl
  ask_ends (b ∷ c) h =
      subst (Led instruction (c ++ instruction_end)) (sym (cond-false (eqb b close_angle) (ended instruction) (cond (eqb b ask) (on asking) (on in_order)) (eqb_swap close_angle b (tested _ h.0))))
      (cond_both (eqb b ask) (on asking) (on in_order) (Led instruction (c ++ instruction_end))
      (λ e. ask_ends c (subst (λ x. Free instruction_end (x ∷ c)) (eqb-true b ask e) h.1))
      (λ e. order_ends c h.1.1))

commented : {bs : List ℕ} → Comment bs → final (on at_open) bs ≡ ended comment
unfolding name_start
commented (remark c h) = remark_ends c h

instructed : {bs : List ℕ} → Instruction bs → final (on at_open) bs ≡ ended instruction
unfolding name_start
instructed (order c h) = order_ends c h

pub accepts : {k : Kind} {n bs : List ℕ} → Markup k n bs → final (on at_open) bs ≡ ended k
accepts (starts h) = started h
accepts (ends h) = shuts h
accepts (remarks h) = commented h
accepts (orders h) = instructed h

-- the name is where the machine finds it
fronted : {i : List ℕ} → All name_byte i → (t : List ℕ) → front name_byte t ≡ [] → front name_byte (i ++ t) ≡ i
fronted none t h = h
fronted (more {b = b} e i) t h = cond-true _ _ _ e ∙ ap (λ x. b ∷ x) (fronted i t h)

name_front : {n : List ℕ} → Name n → (t : List ℕ) → front name_byte t ≡ [] → front name_byte (n ++ t) ≡ n
name_front (name {b = b} e i) t h = fronted (more (start_name b e) i) t h

close_front : {k : Kind} {z : List ℕ} → Close k z → front name_byte z ≡ []
unfolding name_byte
close_front plainly = refl
close_front slashed = refl

white_front : {w : List ℕ} → White w → (z : List ℕ) → front name_byte z ≡ [] → front name_byte (w ++ z) ≡ []
white_front none z h = h
white_front (more {b = b} e w) z h = cond-false _ _ _ (white_name b e)

tail_front : {k : Kind} {a w z : List ℕ} → Attributes a → White w → Close k z → front name_byte (a ++ (w ++ z)) ≡ []
tail_front {z = y} nil w z = white_front w y (close_front z)
tail_front (cons (attribute {b = b} e ws ns us vs xs) y) w z = cond-false _ _ _ (white_name b e)

start_names : {k : Kind} {n bs : List ℕ} → StartTag n k bs → name_in k bs ≡ n
start_names (start_tag ns as' ws plainly) = name_front ns _ (tail_front as' ws plainly)
start_names (start_tag ns as' ws slashed) = name_front ns _ (tail_front as' ws slashed)

end_names : {n bs : List ℕ} → EndTag n bs → name_in closing bs ≡ n
end_names (end_tag {w = w} ns ws) = name_front ns (w ++ (close_angle ∷ [])) (white_front ws (close_angle ∷ []) (close_front plainly))

pub names : {k : Kind} {n bs : List ℕ} → Markup k n bs → name_in k bs ≡ n
names (starts h) = start_names h
names (ends h) = end_names h
names (remarks h) = refl
names (orders h) = refl
