-- SLEB128: the function and the relation agree.
use Rattle.std.proofs.Common.{◌≡◌, ◌==◌, ℕ, ℤ, pos, ◌-ℤ◌, ◌+◌, ◌-◌, ◌<◌, ◌≤◌, ◌*◌, ◌^◌, ◌||◌, ◌⊎◌, true, false, List, length, drop, take, get_or}
use Rattle.std.proofs.Common.{slice_index, Ok, Err, nat_le, nat_lt, inl, inr, refl, sym, ap, subst, ◌∙◌, arith}
use Rattle.std.proofs.lemmas.Bool.{cases_lt, le-leb, lt-ltb, le-ltb, leb-true, eqb-true, and_from, and_parts, or_cases}
use Rattle.std.proofs.lemmas.Int.{ints}
use Rattle.std.proofs.lemmas.List.{length-take, length-take-le, get_or-take, get_or_past}
use Rattle.mach_base.specs.Fault.{bad_input}
use Rattle.mach_base.specs.Leb128.{groups_value, IsGroups, IsSleb, SpellsSigned, last_group, signed_value, is_short_signed, sleb_at}
use Rattle.mach_base.specs.Number.{rest_from}
use Rattle.mach_base.proofs.Fronts.{rest_from-ok, length-rest_from}
use Rattle.mach_base.proofs.Groups.{groups_value-take, IsGroups-from, groups_end, leb_at-here, leb_at-none, leb_at-read}
use Rattle.mach_base.proofs.Spellings.{groups_unique, groups_inside}

-- the tenth group, or 0 if there is none
abbrev IsSign : ℕ → Type 0
IsSign b = (b ≡ 0) ⊎ (b ≡ 127)

sign_test : (b : ℕ) → IsSign b → (b == 0 || b == 127) ≡ true
sign_test b (inl e) = rw e refl
sign_test b (inr e) = rw e refl

sign_from_test : (b : ℕ) → (b == 0 || b == 127) ≡ true → IsSign b
sign_from_test b e = elim (or_cases (b == 0) (b == 127) e) [ inl zero ↦ inl (eqb-true b 0 zero) | inr ones ↦ inr (eqb-true b 127 ones) ]

short : (spelled : List ℕ) (z : ℤ) → IsSleb spelled z → is_short_signed spelled ≡ true
short spelled z u = and_from (nat_le (length spelled) 10) _ (le-leb (length spelled) 10 u.at_most_ten) (sign_test (slice_index spelled 9) u.tenth)

IsSleb-from_short : (spelled : List ℕ) → IsGroups spelled → is_short_signed spelled ≡ true → IsSleb spelled (signed_value spelled)
IsSleb-from_short spelled groups e =
    let parts = and_parts (nat_le (length spelled) 10) (slice_index spelled 9 == 0 || slice_index spelled 9 == 127) e in
    record { groups = groups; at_most_ten = leb-true (length spelled) 10 parts.0; tenth = sign_from_test (slice_index spelled 9) parts.1; value = refl }

last_group-take : (xs : List ℕ) (i : ℕ) → i < length xs → last_group (take (i + 1) xs) ≡ get_or xs i 0
last_group-take xs i lt =
    let len : length (take (i + 1) xs) - 1 ≡ i = omega (arith, length-take-le (i + 1) xs (omega arith)) in
    rw (len, get_or-take (i + 1) xs i 0 (omega arith)) refl

-- the number of groups whose last byte is below 64, and of those whose last is not
pub signed_value-low : (xs : List ℕ) (i : ℕ) → i < length xs → get_or xs i 0 < 64 → signed_value (take (i + 1) xs) ≡ pos (groups_value (take (i + 1) xs))
signed_value-low xs i lt low =
    let test : nat_lt (last_group (take (i + 1) xs)) 64 ≡ true = lt-ltb _ 64 (omega (arith, last_group-take xs i lt)) in
    rw test refl

pub signed_value-high : (xs : List ℕ) (i : ℕ) → i < length xs → 64 ≤ get_or xs i 0
    → signed_value (take (i + 1) xs) ≡ pos (groups_value (take (i + 1) xs)) -ℤ pos (128 ^ (i + 1))
signed_value-high xs i lt high =
    let test : nat_lt (last_group (take (i + 1) xs)) 64 ≡ false = le-ltb _ 64 (omega (arith, last_group-take xs i lt)) in
    rw (test, length-take-le (i + 1) xs (omega arith)) refl

-- a spelling that ends at a place
pub IsSleb-front : (xs : List ℕ) (i : ℕ) (z : ℤ) → i < length xs → i ≤ 9 → ((k : ℕ) → k < i → 128 ≤ get_or xs k 0) → get_or xs i 0 < 128
    → (i ≡ 9 → IsSign (get_or xs 9 0))
    → z ≡ signed_value (take (i + 1) xs) → IsSleb (take (i + 1) xs) z
IsSleb-front xs i z lt le on last tenth value =
    let len : length (take (i + 1) xs) ≡ i + 1 = length-take-le (i + 1) xs (omega arith) in
    record {
      groups = IsGroups-from (take (i + 1) xs) i len (λ k h. rw (get_or-take (i + 1) xs k 0 (omega arith)) (on k h))
          (rw (get_or-take (i + 1) xs i 0 (omega arith)) last);
      at_most_ten = omega arith;
      tenth = elim (cases_lt i 9) [
        | inl below ↦ inl (get_or_past (take (i + 1) xs) 9 0 (omega arith))
        | inr at ↦ let e : i ≡ 9 = omega arith in rw (get_or-take (i + 1) xs 9 0 (omega arith)) (tenth e)
      ];
      value = value;
    }

-- nine groups with bit 7 set, and a tenth
pub signed_tenth : (xs : List ℕ) (v : ℕ) → 9 < length xs → v ≡ groups_value (take 9 xs) → get_or xs 9 0 ≡ 127
    → pos v -ℤ pos (128 ^ 9) ≡ signed_value (take 10 xs)
signed_tenth xs v lt value is =
    signed_sum v (groups_value (take 10 xs)) (omega (arith, value, is, groups_value-take xs 9 lt)) ∙ sym (signed_value-high xs 9 lt (omega (arith, is)))
  where
    signed_sum : (v w : ℕ) → w ≡ v + 127 * 128 ^ 9 → pos v -ℤ pos (128 ^ 9) ≡ pos w -ℤ pos (128 ^ 10)
    signed_sum v w e = omega (arith, ints)

pub unsigned_tenth : (xs : List ℕ) (v : ℕ) → 9 < length xs → v ≡ groups_value (take 9 xs) → get_or xs 9 0 ≡ 0 → pos v ≡ signed_value (take 10 xs)
unsigned_tenth xs v lt value is =
    let same : v ≡ groups_value (take 10 xs) = omega (arith, value, is, groups_value-take xs 9 lt) in
    ap pos same ∙ sym (signed_value-low xs 9 lt (omega (arith, is)))

-- if the bytes below i go on and no byte from i on ends a spelling, there is none
pub IsSleb-none : (xs : List ℕ) (i : ℕ) → ((k : ℕ) → k < i → 128 ≤ get_or xs k 0)
    → ((j : ℕ) → i ≤ j → j < 10 → j < length xs → get_or xs j 0 < 128 → (j ≡ 9 → IsSign (get_or xs 9 0)) → ⊥) → (k : ℕ) (z : ℤ) → IsSleb (take k xs) z → ⊥
IsSleb-none xs i on none k z u =
    let end = groups_end xs i k on u.groups in
    let j = end.0 in
    none j end.1 (omega (arith, end.2, u.at_most_ten)) end.3 end.4 (λ e. rw (← get_or-take k xs 9 0 (omega (arith, length-take k xs, end.2, e))) u.tenth)

-- the number, if one is spelled
sleb_at-spelled : (bytes : List ℕ) (s : ℕ) (spelled : List ℕ) (z : ℤ) → take (length spelled) (drop s bytes) ≡ spelled → IsSleb spelled z
    → sleb_at bytes s ≡ Ok (z, s + length spelled)
unfolding sleb_at
sleb_at-spelled bytes s spelled z here u =
    rw u.value (leb_at-here is_short_signed signed_value bytes s spelled (groups_inside bytes s spelled here u.groups) here u.groups (short spelled z u))

-- the same for a prefix of the bytes from s on
pub sleb_at-front : (bytes rest : List ℕ) (s k : ℕ) (z : ℤ) → rest_from bytes s ≡ Ok rest → k ≤ length rest → IsSleb (take k rest) z
    → sleb_at bytes s ≡ Ok (z, s + k)
sleb_at-front bytes rest s k z e within u =
    let len : length (take k rest) ≡ k = length-take-le k rest within in
    let here : take (length (take k rest)) (drop s bytes) ≡ take k rest = rw (len, (rest_from-ok bytes rest s e).1) refl in
    rw (sym (ap (λ (x : ℕ). s + x) len)) (sleb_at-spelled bytes s (take k rest) z here u)

pub sleb_at-no_front : (bytes rest : List ℕ) (s : ℕ) → rest_from bytes s ≡ Ok rest → ((k : ℕ) (z : ℤ) → IsSleb (take k rest) z → ⊥)
    → sleb_at bytes s ≡ Err (bad_input (length rest))
unfolding sleb_at
sleb_at-no_front bytes rest s e none =
    let inside = rest_from-ok bytes rest s e in
    rw (← length-rest_from bytes rest s e)
    (leb_at-none is_short_signed signed_value bytes s inside.0
    (λ k groups fits. none k (signed_value (take k (drop s bytes))) (rw inside.1 (IsSleb-from_short (take k (drop s bytes)) groups fits))))

-- the law: at most one spelling
pub SpellsSigned-unique : (bytes : List ℕ) (s : ℕ) (xs ys : List ℕ) (y z : ℤ) → SpellsSigned bytes s xs y → SpellsSigned bytes s ys z → (xs ≡ ys) × (y ≡ z)
SpellsSigned-unique bytes s xs ys y z a b =
    let same = groups_unique (drop s bytes) xs ys a.here a.sleb.groups b.here b.sleb.groups in
    (same, a.sleb.value ∙ (ap signed_value same ∙ sym b.sleb.value))

pub sleb_at-SpellsSigned : (bytes : List ℕ) (s : ℕ) (spelled : List ℕ) (z : ℤ) → SpellsSigned bytes s spelled z → sleb_at bytes s ≡ Ok (z, s + length spelled)
sleb_at-SpellsSigned bytes s spelled z h = sleb_at-spelled bytes s spelled z h.here h.sleb

pub SpellsSigned-from_read : (bytes : List ℕ) (s : ℕ) (z : ℤ) (after : ℕ) → sleb_at bytes s ≡ Ok (z, after)
    → (spelled : List ℕ) × SpellsSigned bytes s spelled z × (after ≡ s + length spelled)
unfolding sleb_at
SpellsSigned-from_read bytes s z after e =
    let read = leb_at-read is_short_signed signed_value bytes s z after e in
    let g = read.0 in
    (g, record { here = read.1; sleb = subst (IsSleb g) read.4 (IsSleb-from_short g read.2 read.3) }, sym read.5)
