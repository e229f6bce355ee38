-- That one of a list has a property. Assumes nothing.
use Rattle.std.proofs.Common.{◌⊎◌, List, [], ◌∷◌, ◌++◌, inl, inr, ⊎_elim}
use mathlib.Core.HLevel.{Unit-prop, ⊥_prop}
use Rattle.std.specs.List.{flat_map}
use Rattle.message.specs.Elements.{OneOf}
use Rattle.message.specs.Trees.{Nonempty}

pub one_map : {X : Type 0} {P Q : X → Type 0} (xs : List X) → ((x : X) → P x → Q x) → OneOf P xs → OneOf Q xs
one_map [] f h = h
one_map (x ∷ xs) f h = ⊎_elim (λ a. inl (f x a)) (λ b. inr (one_map xs f b)) h

pub one_left : {X : Type 0} (P : X → Type 0) (xs ys : List X) → OneOf P xs → OneOf P (xs ++ ys)
one_left P [] ys h = absurd h
one_left P (x ∷ xs) ys h = ⊎_elim (λ a. inl a) (λ b. inr (one_left P xs ys b)) h

pub one_right : {X : Type 0} (P : X → Type 0) (xs ys : List X) → OneOf P ys → OneOf P (xs ++ ys)
one_right P [] ys h = h
one_right P (x ∷ xs) ys h = inr (one_right P xs ys h)

pub one_split : {X : Type 0} (P : X → Type 0) (xs ys : List X) → OneOf P (xs ++ ys) → OneOf P xs ⊎ OneOf P ys
one_split P [] ys h = inr h
one_split P (x ∷ xs) ys h = ⊎_elim (λ a. inl (inl a)) (λ b. ⊎_elim (λ p. inl (inr p)) (λ q. inr q) (one_split P xs ys b)) h

pub one_joined : {X Y : Type 0} (P : Y → Type 0) (f : X → List Y) (xs : List X) → OneOf P (flat_map f xs) → OneOf (λ x. OneOf P (f x)) xs
one_joined P f [] h = h
one_joined P f (x ∷ xs) h = ⊎_elim (λ a. inl a) (λ b. inr (one_joined P f xs b)) (one_split P (f x) (flat_map f xs) h)

pub joined_one : {X Y : Type 0} (P : Y → Type 0) (f : X → List Y) (xs : List X) → OneOf (λ x. OneOf P (f x)) xs → OneOf P (flat_map f xs)
joined_one P f [] h = h
joined_one P f (x ∷ xs) h = ⊎_elim (λ a. one_left P (f x) (flat_map f xs) a) (λ b. one_right P (f x) (flat_map f xs) (joined_one P f xs b)) h

pub nonempty_one : {X : Type 0} (xs : List X) → Nonempty xs → OneOf (λ x. Unit {0}) xs
nonempty_one [] h = h
nonempty_one (x ∷ xs) h = inl tt

pub one_nonempty : {X : Type 0} (P : X → Type 0) (xs : List X) → OneOf P xs → Nonempty xs
one_nonempty P [] h = h
one_nonempty P (x ∷ xs) h = tt

pub nonempty_prop : {X : Type 0} (xs : List X) → IsProp (Nonempty xs)
nonempty_prop [] = ⊥_prop
nonempty_prop (x ∷ xs) = Unit-prop
