-- Two items that pass a test, one after the other, by their places in the list.
use Rattle.std.proofs.Common.{◌≡◌, ◌↔◌, Bool, true, List, [], ◌∷◌, ◌++◌, inl, inr, refl, ap, subst, sym}
use Rattle.std.specs.List.{list_any}
use Rattle.std.proofs.lemmas.Bool.{or_cases, or_left, or_right}
use Rattle.mach_fat_writer.specs.Entries.{any_two, HasTwo}

module _ {A : Type 0} (test : A → A → Bool) where
  record Following (x : A) (xs : List A) : Type 0 where
    pub between : List A
    pub y : A
    pub after : List A
    pub is : xs ≡ between ++ y ∷ after
    pub passes : test x y ≡ true

  after_of : (x : A) (xs : List A) → list_any (test x) xs ≡ true → Following x xs
  after_of x [] e = absurd (cc)
  after_of x (y ∷ xs) e = elim (or_cases (test x y) (list_any (test x) xs) e) [
    | inl here ↦ record { between = []; y = y; after = xs; is = refl; passes = here }
    | inr later ↦
        let found = after_of x xs later in
        record { between = y ∷ found.between; y = found.y; after = found.after; is = ap (λ (ys : List A). y ∷ ys) found.is; passes = found.passes }
  ]

  any_after : (x y : A) (between after : List A) → test x y ≡ true → list_any (test x) (between ++ y ∷ after) ≡ true
  any_after x y [] after passes = or_left (test x y) (list_any (test x) after) passes
  any_after x y (z ∷ between) after passes =
      or_right (test x z) (list_any (test x) (between ++ y ∷ after)) (any_after x y between after passes)

  has_two : (xs : List A) → any_two test xs ≡ true → HasTwo test xs
  has_two [] e = absurd (cc)
  has_two (x ∷ xs) e = elim (or_cases (list_any (test x) xs) (any_two test xs) e) [
    | inl here ↦
        let found = after_of x xs here in
        record {
          before = [];
          first = x;
          between = found.between;
          second = found.y;
          after = found.after;
          is = ap (λ (ys : List A). x ∷ ys) found.is;
          passes = found.passes;
        }
    | inr later ↦
        let found = has_two xs later in
        record {
          before = x ∷ found.before;
          first = found.first;
          between = found.between;
          second = found.second;
          after = found.after;
          is = ap (λ (ys : List A). x ∷ ys) found.is;
          passes = found.passes;
        }
  ]

  any_two_in : (before between after : List A) (x y : A) → test x y ≡ true → any_two test (before ++ x ∷ (between ++ y ∷ after)) ≡ true
  any_two_in [] between after x y passes =
      or_left (list_any (test x) (between ++ y ∷ after)) (any_two test (between ++ y ∷ after)) (any_after x y between after passes)
  any_two_in (z ∷ before) between after x y passes =
      or_right (list_any (test z) (before ++ x ∷ (between ++ y ∷ after))) (any_two test (before ++ x ∷ (between ++ y ∷ after)))
      (any_two_in before between after x y passes)

  two_are : (xs : List A) → HasTwo test xs → any_two test xs ≡ true
  two_are xs two =
      subst (λ (ys : List A). any_two test ys ≡ true) (sym two.is) (any_two_in two.before two.between two.after two.first two.second two.passes)

pub any_two_are_two : {A : Type 0} (test : A → A → Bool) (xs : List A) → (any_two test xs ≡ true) ↔ HasTwo test xs
any_two_are_two test xs = (has_two test xs, two_are test xs)
