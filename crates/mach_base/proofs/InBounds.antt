-- Items whose record begins within the bytes.
use Rattle.std.proofs.Common.{◌≡◌, ℕ, zero, suc, ◌+◌, ◌-◌, ◌<◌, ◌≤◌, true, false, Bool, List, [], ◌∷◌, length, min, Result, Ok, Err, nat_le}
use Rattle.std.proofs.Common.{inl, inr, refl, sym, ap, ◌∙◌, arith}
use Rattle.std.proofs.lemmas.Bool.{cases_lt, lt-leb, le-leb}
use Rattle.std.specs.List.{list_all}
use Rattle.std.specs.Result.{is_ok}
use Rattle.mach_base.specs.Answer.{◌>>=◌}
use Rattle.mach_base.specs.Fault.{Fault}
use Rattle.mach_base.specs.Items.{items_in_bounds, is_past_the_end, items_from}
use Rattle.mach_base.specs.Number.{bounded}

-- two tests that agree
pub same_test : (a b c d : ℕ) → (a ≤ b → c ≤ d) → (b < a → d < c) → nat_le a b ≡ nat_le c d
same_test a b c d on off = elim (cases_lt b a) [
  | inl less ↦ lt-leb a b less ∙ sym (lt-leb c d (off less))
  | inr more ↦ le-leb a b more ∙ sym (le-leb c d (on more))
]

-- a bounded read fails because of its place exactly if the place is at or past the end
pub past_bounded : {A : Type 0} (n : ℕ) (bytes : List ℕ) (s : ℕ) (found : A) → is_past_the_end (bounded n bytes s found) ≡ nat_le (length bytes) s
past_bounded n bytes s found = elim (cases_lt s (length bytes)) [
  | inr past ↦ let test : nat_le (length bytes) s ≡ true = le-leb (length bytes) s past in rw test refl
  | inl inside ↦
      let test : nat_le (length bytes) s ≡ false = lt-leb (length bytes) s inside in
      elim (cases_lt (length bytes) (s + n)) [
        | inl short ↦ let room : nat_le (s + n) (length bytes) ≡ false = lt-leb (s + n) (length bytes) short in rw (test, room) refl
        | inr enough ↦ let room : nat_le (s + n) (length bytes) ≡ true = le-leb (s + n) (length bytes) enough in rw (test, room) refl
      ]
]

-- the same after a further step that cannot fail
pub past_after : {A B : Type 0} (found : Result A Fault) (f : A → B) → is_past_the_end (found >>= (λ x. Ok (f x))) ≡ is_past_the_end found
past_after (Ok x) f = refl
past_after (Err e) f = refl

in_bounds_front : {A : Type 0} (item : ℕ → Result A Fault) (first count in_bounds : ℕ) → ((k : ℕ) → is_past_the_end (item k) ≡ nat_le in_bounds k)
    → items_in_bounds (items_from item first count) ≡ items_from item first (min count (in_bounds - first))
in_bounds_front item first zero in_bounds past = let none : min 0 (in_bounds - first) ≡ 0 = omega arith in rw none refl
in_bounds_front item first (suc count) in_bounds past = elim (cases_lt first in_bounds) [
  | inl inside ↦
      let test : is_past_the_end (item first) ≡ false = past first ∙ lt-leb in_bounds first inside in
      let one_more : min (suc count) (in_bounds - first) ≡ suc (min count (in_bounds - (first + 1))) = omega (arith, inside) in
      rw (test, one_more) (ap (λ items. item first ∷ items) (in_bounds_front item (first + 1) count in_bounds past))
  | inr out ↦
      let test : is_past_the_end (item first) ≡ true = past first ∙ le-leb in_bounds first out in
      let none : min (suc count) (in_bounds - first) ≡ 0 = omega (arith, out) in
      rw (test, none) refl
]

-- If exactly the items below number `in_bounds` begin within the bytes, the remaining ones that do are those from `next` up to `in_bounds`.
pub in_bounds-items_from : {A : Type 0} (item : ℕ → Result A Fault) (next count in_bounds : ℕ) → ((k : ℕ) → is_past_the_end (item k) ≡ nat_le in_bounds k)
    → items_from item next (min count in_bounds - next) ≡ items_in_bounds (items_from item next (count - next))
in_bounds-items_from item next count in_bounds past =
    let fewer : min (count - next) (in_bounds - next) ≡ min count in_bounds - next = omega arith in
    sym (in_bounds_front item next (count - next) in_bounds past ∙ rw fewer refl)

-- If fewer items begin than there are, one of them cannot be read.
pub some_past : {A : Type 0} (items : List (Result A Fault)) → length (items_in_bounds items) < length items → list_all is_ok items ≡ false
some_past [] less = absurd (omega (arith, less))
some_past (Ok x ∷ items) less = some_past items (omega (arith, less))
some_past (Err f ∷ items) less = refl
