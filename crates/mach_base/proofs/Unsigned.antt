-- ULEB128: the function and the relation agree.
use Rattle.std.proofs.Common.{◌≡◌, ℕ, ◌+◌, ◌<◌, ◌≤◌, true, List, [], ◌∷◌, length, drop, take, get_or, slice_index, Ok, Err, IsErr, nat_le, inl, inr}
use Rattle.std.proofs.Common.{refl, sym, ap, subst, ◌∙◌, arith}
use Rattle.std.proofs.lemmas.Bool.{cases_lt, le-leb, leb-true, and_from, and_parts}
use Rattle.std.proofs.lemmas.List.{length-take, length-take-le, get_or-take, get_or_past}
use Rattle.mach_base.specs.Fault.{bad_input}
use Rattle.mach_base.specs.Leb128.{groups_value, IsGroups, IsUleb, Spells, is_short, uleb_at}
use Rattle.mach_base.specs.Number.{rest_from}
use Rattle.mach_base.proofs.Fronts.{rest_from-ok, length-rest_from}
use Rattle.mach_base.proofs.Groups.{IsGroups-from, groups_end, leb_at-here, leb_at-none, leb_at-read}
use Rattle.mach_base.proofs.Spellings.{groups_unique, groups_inside}

short : (spelled : List ℕ) (n : ℕ) → IsUleb spelled n → is_short spelled ≡ true
short spelled n u =
    and_from (nat_le (length spelled) 10) (nat_le (slice_index spelled 9) 1) (le-leb (length spelled) 10 u.at_most_ten)
    (le-leb (slice_index spelled 9) 1 u.tenth)

IsUleb-from_short : (spelled : List ℕ) → IsGroups spelled → is_short spelled ≡ true → IsUleb spelled (groups_value spelled)
IsUleb-from_short spelled groups e =
    let parts = and_parts (nat_le (length spelled) 10) (nat_le (slice_index spelled 9) 1) e in
    record { groups = groups; at_most_ten = leb-true (length spelled) 10 parts.0; tenth = leb-true (slice_index spelled 9) 1 parts.1; value = refl }

-- a spelling that ends at a place
pub IsUleb-front : (xs : List ℕ) (i v : ℕ) → i < length xs → i ≤ 9 → ((k : ℕ) → k < i → 128 ≤ get_or xs k 0) → get_or xs i 0 < 128 → (i ≡ 9 → get_or xs 9 0 ≤ 1)
    → v ≡ groups_value (take (i + 1) xs) → IsUleb (take (i + 1) xs) v
IsUleb-front xs i v lt le on last tenth value =
    let len : length (take (i + 1) xs) ≡ i + 1 = length-take-le (i + 1) xs (omega arith) in
    record {
      groups = IsGroups-from (take (i + 1) xs) i len (λ k h. rw (get_or-take (i + 1) xs k 0 (omega arith)) (on k h))
          (rw (get_or-take (i + 1) xs i 0 (omega arith)) last);
      at_most_ten = omega arith;
      tenth = elim (cases_lt i 9) [
        | inl below ↦ rw (get_or_past (take (i + 1) xs) 9 0 (omega arith)) (omega arith)
        | inr at ↦ let e : i ≡ 9 = omega arith in rw (get_or-take (i + 1) xs 9 0 (omega arith)) (tenth e)
      ];
      value = value;
    }

-- if the bytes below i go on and no byte from i on ends a spelling, there is none
pub IsUleb-none : (xs : List ℕ) (i : ℕ) → ((k : ℕ) → k < i → 128 ≤ get_or xs k 0)
    → ((j : ℕ) → i ≤ j → j < 10 → j < length xs → get_or xs j 0 < 128 → (j ≡ 9 → get_or xs 9 0 ≤ 1) → ⊥) → (k n : ℕ) → IsUleb (take k xs) n → ⊥
IsUleb-none xs i on none k n u =
    let end = groups_end xs i k on u.groups in
    let j = end.0 in
    none j end.1 (omega (arith, end.2, u.at_most_ten)) end.3 end.4 (λ e. rw (← get_or-take k xs 9 0 (omega (arith, length-take k xs, end.2, e))) u.tenth)

-- the number, if one is spelled
uleb_at-spelled : (bytes : List ℕ) (s : ℕ) (spelled : List ℕ) (n : ℕ) → take (length spelled) (drop s bytes) ≡ spelled → IsUleb spelled n
    → uleb_at bytes s ≡ Ok (n, s + length spelled)
unfolding uleb_at
uleb_at-spelled bytes s spelled n here u =
    rw u.value (leb_at-here is_short groups_value bytes s spelled (groups_inside bytes s spelled here u.groups) here u.groups (short spelled n u))

-- the same for a prefix of the bytes from s on
pub uleb_at-front : (bytes rest : List ℕ) (s k n : ℕ) → rest_from bytes s ≡ Ok rest → k ≤ length rest → IsUleb (take k rest) n → uleb_at bytes s ≡ Ok (n, s + k)
uleb_at-front bytes rest s k n e within u =
    let len : length (take k rest) ≡ k = length-take-le k rest within in
    let here : take (length (take k rest)) (drop s bytes) ≡ take k rest = rw (len, (rest_from-ok bytes rest s e).1) refl in
    rw (sym (ap (λ (x : ℕ). s + x) len)) (uleb_at-spelled bytes s (take k rest) n here u)

pub uleb_at-no_front : (bytes rest : List ℕ) (s : ℕ) → rest_from bytes s ≡ Ok rest → ((k n : ℕ) → IsUleb (take k rest) n → ⊥)
    → uleb_at bytes s ≡ Err (bad_input (length rest))
unfolding uleb_at
uleb_at-no_front bytes rest s e none =
    let inside = rest_from-ok bytes rest s e in
    rw (← length-rest_from bytes rest s e)
    (leb_at-none is_short groups_value bytes s inside.0
    (λ k groups fits. none k (groups_value (take k (drop s bytes))) (rw inside.1 (IsUleb-from_short (take k (drop s bytes)) groups fits))))

-- the law: at most one spelling
pub Spells-unique : (bytes : List ℕ) (s : ℕ) (xs ys : List ℕ) (m n : ℕ) → Spells bytes s xs m → Spells bytes s ys n → (xs ≡ ys) × (m ≡ n)
Spells-unique bytes s xs ys m n a b =
    let same = groups_unique (drop s bytes) xs ys a.here a.uleb.groups b.here b.uleb.groups in
    (same, a.uleb.value ∙ (ap groups_value same ∙ sym b.uleb.value))

pub uleb_at-Spells : (bytes : List ℕ) (s : ℕ) (spelled : List ℕ) (n : ℕ) → Spells bytes s spelled n → uleb_at bytes s ≡ Ok (n, s + length spelled)
uleb_at-Spells bytes s spelled n h = uleb_at-spelled bytes s spelled n h.here h.uleb

pub Spells-from_read : (bytes : List ℕ) (s n after : ℕ) → uleb_at bytes s ≡ Ok (n, after)
    → (spelled : List ℕ) × Spells bytes s spelled n × (after ≡ s + length spelled)
unfolding uleb_at
Spells-from_read bytes s n after e =
    let read = leb_at-read is_short groups_value bytes s n after e in
    let g = read.0 in
    (g, record { here = read.1; uleb = subst (IsUleb g) read.4 (IsUleb-from_short g read.2 read.3) }, sym read.5)

groups_some : (spelled : List ℕ) → IsGroups spelled → 0 < length spelled
groups_some [] h = absurd h
groups_some (b ∷ bs) h = omega arith

-- a number ends after its place
pub uleb_at-moves : (bytes : List ℕ) (s n after : ℕ) → uleb_at bytes s ≡ Ok (n, after) → s < after
uleb_at-moves bytes s n after e =
    let read = Spells-from_read bytes s n after e in
    let some = groups_some read.0 read.1.uleb.groups in
    omega (arith, read.2)

-- no number lies past the end
pub uleb_at-outside : (bytes : List ℕ) (s : ℕ) → length bytes ≤ s → IsErr (uleb_at bytes s)
unfolding uleb_at
uleb_at-outside bytes s out =
    let test : nat_le (length bytes) s ≡ true = le-leb (length bytes) s out in
    rw test refl
