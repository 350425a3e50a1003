-- From the first groups of some bytes and a tenth byte to the spellings there.
use Rattle.std.proofs.Common.{◌≡◌, ◌<◌, ◌≤◌, ◌+◌, ◌*◌, ◌^◌, ◌⊎◌, ℕ, ℤ, pos, ◌-ℤ◌, true, false, cond, List, length, take, slice_index, nat_le, inl}
use Rattle.std.proofs.Common.{inr, refl, ap, ◌∙◌, arith}
use Rattle.std.proofs.lemmas.Bool.{cases_lt, le-leb, lt-leb}
use Rattle.mach_base.specs.declared.leb128.Groups.{Groups}
use Rattle.mach_base.specs.FrontGroups.{GoOn, AreFront}
use Rattle.mach_base.specs.Leb128.{groups_value, signed_value, IsUleb, IsSleb}
use Rattle.mach_base.proofs.Groups.{groups_value-take}
use Rattle.mach_base.proofs.Unsigned.{IsUleb-front, IsUleb-none}
use Rattle.mach_base.proofs.Signed.{IsSleb-front, IsSleb-none, signed_value-low, signed_value-high, unsigned_tenth, signed_tenth}

-- the number of the groups, by a test of its sign
abbrev pub signed_by : Groups → ℤ
signed_by groups = cond (nat_le 64 groups.last) (pos groups.value -ℤ pos groups.weight) (pos groups.value)

module _ (bytes : List ℕ) (groups : Groups) (first : AreFront bytes groups) where
  -- if the last group ends the number
  pub IsUleb-short : groups.last < 128 → IsUleb (take (groups.index + 1) bytes) groups.value
  IsUleb-short low =
      IsUleb-front bytes groups.index groups.value first.inside (omega (arith, first.at_most_nine)) first.go_on (rw (← first.last) low)
      (λ e. absurd (omega (arith, first.at_most_nine))) first.value

  signed_short : groups.last < 128 → signed_by groups ≡ signed_value (take (groups.index + 1) bytes)
  signed_short low = elim (cases_lt groups.last 64) [
    | inl positive ↦
        let test : nat_le 64 groups.last ≡ false = lt-leb 64 groups.last positive in
        rw (test, signed_value-low bytes groups.index first.inside (rw (← first.last) positive), ← first.value) refl
    | inr negative ↦
        let test : nat_le 64 groups.last ≡ true = le-leb 64 groups.last negative in
        rw (test, signed_value-high bytes groups.index first.inside (rw (← first.last) negative), ← first.value, ← first.weight) refl
  ]

  pub IsSleb-short : (z : ℤ) → z ≡ signed_by groups → groups.last < 128 → IsSleb (take (groups.index + 1) bytes) z
  IsSleb-short z value low =
      IsSleb-front bytes groups.index z first.inside (omega (arith, first.at_most_nine)) first.go_on (rw (← first.last) low)
      (λ e. absurd (omega (arith, first.at_most_nine))) (value ∙ signed_short low)

  module _ (more : 128 ≤ groups.last) where
    nine_go_on : GoOn bytes 9
    nine_go_on k lt = elim (cases_lt k 8) [
      | inl below ↦ first.go_on k (omega (arith, first.ninth more))
      | inr at ↦
          let e : k ≡ groups.index = omega (arith, first.ninth more) in
          rw (e, ← first.last) more
    ]

    nine_value : groups.value ≡ groups_value (take 9 bytes)
    nine_value = let nine : groups.index + 1 ≡ 9 = omega (arith, first.ninth more) in first.value ∙ ap (λ (n : ℕ). groups_value (take n bytes)) nine

    nine_weight : groups.weight ≡ 128 ^ 9
    nine_weight = let nine : groups.index + 1 ≡ 9 = omega (arith, first.ninth more) in first.weight ∙ ap (λ (n : ℕ). 128 ^ n) nine

    -- if a tenth byte ends the number
    pub IsUleb-tenth : (v : ℕ) → 9 < length bytes → slice_index bytes 9 ≤ 1 → v ≡ groups.value + slice_index bytes 9 * groups.weight → IsUleb (take 10 bytes) v
    IsUleb-tenth v inside small value =
        let tenth : slice_index bytes 9 * groups.weight ≡ slice_index bytes 9 * 128 ^ 9 = ap (λ (w : ℕ). slice_index bytes 9 * w) nine_weight in
        let sum : v ≡ groups_value (take 10 bytes) = omega (arith, value, tenth, small, nine_value, groups_value-take bytes 9 inside) in
        IsUleb-front bytes 9 v inside (omega arith) nine_go_on (omega (arith, small)) (λ _. small) sum

    pub IsSleb-zero : (z : ℤ) → 9 < length bytes → slice_index bytes 9 ≡ 0 → z ≡ pos groups.value → IsSleb (take 10 bytes) z
    IsSleb-zero z inside zero value =
        IsSleb-front bytes 9 z inside (omega arith) nine_go_on (omega (arith, zero)) (λ _. inl zero)
        (value ∙ unsigned_tenth bytes groups.value inside nine_value zero)

    pub IsSleb-ones : (z : ℤ) → 9 < length bytes → slice_index bytes 9 ≡ 127 → z ≡ pos groups.value -ℤ pos groups.weight → IsSleb (take 10 bytes) z
    IsSleb-ones z inside ones value =
        IsSleb-front bytes 9 z inside (omega arith) nine_go_on (omega (arith, ones)) (λ _. inr ones)
        (value ∙ (ap (λ (w : ℕ). pos groups.value -ℤ pos w) nine_weight ∙ signed_tenth bytes groups.value inside nine_value ones))

    -- if no tenth byte ends the number
    pub IsUleb-too_long : (9 < length bytes → 1 < slice_index bytes 9) → (k n : ℕ) → IsUleb (take k bytes) n → ⊥
    IsUleb-too_long long =
        IsUleb-none bytes 9 nine_go_on (λ j le ten inside low tenth. let e : j ≡ 9 = omega arith in omega (arith, tenth e, long (omega (arith, e, inside))))

    pub IsSleb-too_long : (9 < length bytes → (slice_index bytes 9 ≡ 0) ⊎ (slice_index bytes 9 ≡ 127) → ⊥) → (k : ℕ) (z : ℤ) → IsSleb (take k bytes) z → ⊥
    IsSleb-too_long long =
        IsSleb-none bytes 9 nine_go_on (λ j le ten inside low tenth. let e : j ≡ 9 = omega arith in long (omega (arith, e, inside)) (tenth e))

-- if the bytes end before their number does
pub IsUleb-cut : (bytes : List ℕ) → GoOn bytes (length bytes) → (k n : ℕ) → IsUleb (take k bytes) n → ⊥
IsUleb-cut bytes on = IsUleb-none bytes (length bytes) on (λ j le ten inside low tenth. omega arith)

pub IsSleb-cut : (bytes : List ℕ) → GoOn bytes (length bytes) → (k : ℕ) (z : ℤ) → IsSleb (take k bytes) z → ⊥
IsSleb-cut bytes on = IsSleb-none bytes (length bytes) on (λ j le ten inside low tenth. omega arith)
