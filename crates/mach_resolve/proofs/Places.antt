-- Places of files by their names, and membership in lists.
use Rattle.std.proofs.Common.{◌≡◌, ◌∙◌, ◌+◌, ℕ, Bool, not, cond, List, [], ◌∷◌, ◌++◌, Some, None, length, map, ◌⊎◌, refl, ap, inl, inr}
use Rattle.std.specs.Prelude.{nat_lt, position}
use Rattle.std.specs.List.{prefix_len}
use Rattle.std.proofs.lemmas.List.{length-map}
use Rattle.mach_base.specs.Among.{IsAmong}

prefix_len-map : {X Y : Type 0} (p : Y → Bool) (h : X → Y) (xs : List X) → prefix_len p (map h xs) ≡ prefix_len (λ x. p (h x)) xs
prefix_len-map p h [] = refl
prefix_len-map p h (x ∷ xs) = ap (λ (n : ℕ). cond (p (h x)) (1 + n) 0) (prefix_len-map p h xs)

pub position-map : {X Y : Type 0} (p : Y → Bool) (h : X → Y) (xs : List X) → position p (map h xs) ≡ position (λ x. p (h x)) xs
position-map p h xs =
    let same = prefix_len-map (λ y. not (p y)) h xs in
    let there = prefix_len (λ x. not (p (h x))) xs in
    ap (λ (n : ℕ). cond (nat_lt n (length (map h xs))) (Some n) None) same
    ∙ ap (λ (l : ℕ). cond (nat_lt there l) (Some there) None) (length-map xs h)

-- a pushed item is among the others
pub among_pushed : {X : Type 0} (x : X) (xs : List X) → IsAmong x (xs ++ x ∷ [])
among_pushed x [] = inl refl
among_pushed x (y ∷ ys) = inr (among_pushed x ys)

pub among_before : {X : Type 0} (x y : X) (xs : List X) → IsAmong x xs → IsAmong x (xs ++ y ∷ [])
among_before x y [] a = absurd a
among_before x y (z ∷ zs) (inl e) = inl e
among_before x y (z ∷ zs) (inr a) = inr (among_before x y zs a)

pub among_or_last : {X : Type 0} (x y : X) (xs : List X) → IsAmong x (xs ++ y ∷ []) → IsAmong x xs ⊎ (x ≡ y)
among_or_last x y [] (inl e) = inr e
among_or_last x y [] (inr a) = absurd a
among_or_last x y (z ∷ zs) (inl e) = inl (inl e)
among_or_last x y (z ∷ zs) (inr a) =
    elim (among_or_last x y zs a) as (λ _. IsAmong x (z ∷ zs) ⊎ (x ≡ y)) [ inl b ↦ inl (inr b) | inr e ↦ inr e ]
