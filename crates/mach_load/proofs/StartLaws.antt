-- Laws of function starts.
use Rattle.std.proofs.Common.{◌≡◌, ℕ, zero, suc, ◌+◌, ◌-◌, ◌<◌, ◌≤◌, List, [], ◌∷◌, length, take, Some, Result, Ok, Err, slice_get}
use Rattle.std.proofs.Common.{inl, inr, refl, ap, ◌∙◌, subst, arith}
use Rattle.std.specs.List.{sum, fold}
use Rattle.mach_base.specs.Fault.{Fault}
use Rattle.mach_load.specs.FunctionStarts.{StartRange, AreStartsAfter, AreFunctionStarts}
use Rattle.mach_load.specs.StartNumbers.{AreDistances, AreSums}
use Rattle.mach_load.proofs.StartsRead.{number_of, goes_on}

-- an empty list has no item
nothing_in : {A : Type 0} (xs : List A) (k : ℕ) (x : A) → xs ≡ [] → slice_get xs k ≡ Some x → ⊥
nothing_in [] zero x none e = absurd (cc)
nothing_in [] (suc k) x none e = absurd (cc)
nothing_in (y ∷ ys) k x none e = absurd (cc)

-- a sum that begins with a number
fold_from : (a : ℕ) (xs : List ℕ) → fold ◌+◌ a xs ≡ a + sum xs
fold_from a [] = omega arith
fold_from a (x ∷ xs) = omega (arith, fold_from (a + x) xs, fold_from (0 + x) xs)

sum_more : (n : ℕ) (ns : List ℕ) → sum (n ∷ ns) ≡ n + sum ns
sum_more n ns = fold_from (0 + n) ns ∙ ap (λ (m : ℕ). m + sum ns) (let same : 0 + n ≡ n = omega arith in same)

module _ (bytes : List ℕ) (upto : ℕ) where
  abbrev Are : (place address : ℕ) → List (Result ℕ Fault) → Type 0
  Are place address items = AreStartsAfter bytes upto place address items

  one : (place address : ℕ) (xs ys : List (Result ℕ Fault)) → Are place address xs → Are place address ys → xs ≡ ys
  one place address [] [] p q = refl
  one place address [] (Ok b ∷ ys) p q = elim p [
    | inl past ↦ absurd (let inside = q.0 in omega (arith, past, inside))
    | inr none ↦ absurd (let some = q.1.1 in cc)
  ]
  one place address [] (Err g ∷ ys) p q = elim p [
    | inl past ↦ absurd (let inside = q.0 in omega (arith, past, inside))
    | inr none ↦ absurd (let some = q.1 in cc)
  ]
  one place address (Ok a ∷ xs) [] p q = elim q [
    | inl past ↦ absurd (let inside = p.0 in omega (arith, past, inside))
    | inr none ↦ absurd (let some = p.1.1 in cc)
  ]
  one place address (Err f ∷ xs) [] p q = elim q [
    | inl past ↦ absurd (let inside = p.0 in omega (arith, past, inside))
    | inr none ↦ absurd (let some = p.1 in cc)
  ]
  one place address (Ok a ∷ xs) (Err g ∷ ys) p q = absurd (let some = p.1.1 in let none = q.1 in cc)
  one place address (Err f ∷ xs) (Ok b ∷ ys) p q = absurd (let none = p.1 in let some = q.1.1 in cc)
  one place address (Err f ∷ xs) (Err g ∷ ys) p q = let here = p.1 in let there = q.1 in let end = p.2 in let other = q.2 in cc
  one place address (Ok a ∷ xs) (Ok b ∷ ys) p q =
      let here = p.1.1 in
      let there = q.1.1 in
      let same : (a, p.1.0) ≡ (b, q.1.0) = cc in
      let rest : Are q.1.0 b xs = subst (λ (s : ℕ × ℕ). Are s.1 s.0 xs) same p.1.2 in
      let others : xs ≡ ys = one q.1.0 b xs ys rest q.1.2 in
      let first : a ≡ b = ap (λ (s : ℕ × ℕ). s.0) same in
      ap (λ (x : ℕ). Ok x ∷ xs) first ∙ ap (λ (items : List (Result ℕ Fault)). Ok b ∷ items) others

  -- each start is greater than the address
  above : (place address : ℕ) (items : List (Result ℕ Fault)) → Are place address items
      → (k a : ℕ) → slice_get items k ≡ Some (Ok a) → address < a
  above place address [] p k a e = absurd (nothing_in [] k (Ok a) refl e)
  above place address (Err f ∷ items) p zero a e = absurd (cc)
  above place address (Err f ∷ items) p (suc k) a e = absurd (nothing_in items k (Ok a) p.2 e)
  above place address (Ok s ∷ items) p zero a e =
      let on = (goes_on bytes place address s p.1.0 p.1.1).1 in
      let same : s ≡ a = cc in omega (arith, on, same)
  above place address (Ok s ∷ items) p (suc k) a e =
      let on = (goes_on bytes place address s p.1.0 p.1.1).1 in
      omega (arith, on, above p.1.0 s items p.1.2 k a e)

  ascending : (place address : ℕ) (items : List (Result ℕ Fault)) → Are place address items
      → (j k a b : ℕ) → slice_get items j ≡ Some (Ok a) → slice_get items k ≡ Some (Ok b) → j < k → a < b
  ascending place address [] p j k a b e f less = absurd (nothing_in [] j (Ok a) refl e)
  ascending place address (Err g ∷ items) p zero k a b e f less = absurd (cc)
  ascending place address (Err g ∷ items) p (suc j) k a b e f less = absurd (nothing_in items j (Ok a) p.2 e)
  ascending place address (Ok s ∷ items) p j zero a b e f less = absurd (omega (arith, less))
  ascending place address (Ok s ∷ items) p zero (suc k) a b e f less =
      let same : s ≡ a = cc in omega (arith, same, above p.1.0 s items p.1.2 k b f)
  ascending place address (Ok s ∷ items) p (suc j) (suc k) a b e f less =
      ascending p.1.0 s items p.1.2 j k a b e f (omega (arith, less))

  few : (place address : ℕ) (items : List (Result ℕ Fault)) → Are place address items → length items ≤ upto - place
  few place address [] p = omega arith
  few place address (Err f ∷ items) p = let inside = p.0 in omega (arith, inside, ap length p.2)
  few place address (Ok s ∷ items) p =
      let inside = p.0 in
      let on = (goes_on bytes place address s p.1.0 p.1.1).0 in
      omega (arith, inside, on, few p.1.0 s items p.1.2)

  -- the sums with one more number
  one_more : (address n : ℕ) (ns : List ℕ) (items : List (Result ℕ Fault)) (s : ℕ) → s ≡ address + n → AreSums s ns items
      → AreSums address (n ∷ ns) (Ok s ∷ items)
  one_more address n ns items s is sums zero start e = let same : s ≡ start = cc in (omega arith, omega (arith, is, same))
  one_more address n ns items s is sums (suc k) start e =
      let following = sums k start e in
      let inside = following.0 in
      let sum_is = following.1 in
      let same : take (suc k + 1) (n ∷ ns) ≡ n ∷ take (k + 1) ns =
      ap (λ (j : ℕ). take j (n ∷ ns)) (let next : suc k + 1 ≡ suc (k + 1) = omega arith in next)
      in
      let whole : sum (take (suc k + 1) (n ∷ ns)) ≡ n + sum (take (k + 1) ns) = ap sum same ∙ sum_more n (take (k + 1) ns) in
      (omega (arith, inside), omega (arith, is, sum_is, whole))

  summed : (place address : ℕ) (items : List (Result ℕ Fault)) → Are place address items
      → (numbers : List ℕ) × AreDistances bytes upto place numbers × AreSums address numbers items
  summed place address [] p = ([], tt, λ k start e. absurd (nothing_in [] k (Ok start) refl e))
  summed place address (Err f ∷ items) p = ([], tt, no_sum)
    where
      no_sum : AreSums address [] (Err f ∷ items)
      no_sum zero start e = absurd (cc)
      no_sum (suc k) start e = absurd (nothing_in items k (Ok start) p.2 e)
  summed place address (Ok s ∷ items) p =
      let number = number_of bytes place address s p.1.0 p.1.1 in
      let following = summed p.1.0 s items p.1.2 in (
        number.0 ∷ following.0,
        (p.0, number.2, (p.1.0, number.1, following.1)),
        one_more address number.0 following.0 items s number.3 following.2,
      )

pub one_start_list : (r : StartRange) (base : ℕ) (xs ys : List (Result ℕ Fault)) → AreFunctionStarts r base xs → AreFunctionStarts r base ys → xs ≡ ys
one_start_list r base xs ys p q = one r.bytes r.upto r.from base xs ys p q

pub starts_ascend : (r : StartRange) (base : ℕ) (items : List (Result ℕ Fault)) → AreFunctionStarts r base items
    → (j k a b : ℕ) → slice_get items j ≡ Some (Ok a) → slice_get items k ≡ Some (Ok b) → j < k → a < b
starts_ascend r base items p j k a b e f less = ascending r.bytes r.upto r.from base items p j k a b e f less

pub few_starts : (r : StartRange) (base : ℕ) (items : List (Result ℕ Fault)) → AreFunctionStarts r base items → length items ≤ r.upto - r.from
few_starts r base items p = few r.bytes r.upto r.from base items p

pub starts_are_sums : (r : StartRange) (base : ℕ) (items : List (Result ℕ Fault)) → AreFunctionStarts r base items
    → (numbers : List ℕ) × AreDistances r.bytes r.upto r.from numbers × AreSums base numbers items
starts_are_sums r base items p = summed r.bytes r.upto r.from base items p
