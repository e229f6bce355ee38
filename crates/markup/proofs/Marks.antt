-- A place at which a mark does not stand. Assumes nothing.
use Rattle.std.proofs.Common.{◌≡◌, ℕ, ◌+◌, ◌-◌, ◌<◌, Bool, true, false, cond, ◌&&◌, eqb, List, [], ◌∷◌, length, take, drop, sym, refl, ap, ◌∙◌}
use Rattle.std.specs.List.{starts_with}
use Rattle.std.proofs.lemmas.Bool.{cond-false}
use Rattle.std.proofs.lemmas.List.{at_drop_more, take_rest}
use Rattle.markup.specs.Bytes.{begins}
use Rattle.markup.specs.Runs.{first_from}

both : (a b c : Bool) → b ≡ c → (a && b) ≡ cond a c false
both true b c e = e
both false b c e = refl

-- the library's test is that of the specification
starts_begins : (s w : List ℕ) → starts_with eqb s w ≡ begins w s
starts_begins s [] = refl
starts_begins [] (a ∷ w) = refl
starts_begins (b ∷ s) (a ∷ w) = both (eqb a b) _ _ (starts_begins s w)

pub passes : (w m : List ℕ) (i : ℕ) (b : Bool) → i < length m → b ≡ starts_with eqb (take (length m - i) (drop i m)) w → b ≡ false → first_from w i (drop i m) ≡ first_from w (i + 1) (drop (i + 1) m)
passes w m i b lt is h =
    let e : begins w (drop i m) ≡ false = sym (starts_begins (drop i m) w) ∙ ap (λ l. starts_with eqb l w) (sym (take_rest m i)) ∙ sym is ∙ h in
    at_drop_more (first_from w i) m i 0 lt ∙ cond-false _ _ _ (sym (at_drop_more (begins w) m i 0 lt) ∙ e)
