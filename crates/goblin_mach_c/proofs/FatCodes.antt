-- Which records of a fat file can be read.
use Rattle.std.proofs.Common.{◌≡◌, ◌<◌, ◌≤◌, ◌+◌, ◌-◌, ◌*◌, ◌^◌, ℕ, List, Ok, Err, length, nat_le, refl, arith, inl, inr}
use Rattle.std.specs.Prelude.{Bool, true, false, min, IsOk, if◌then◌else◌}
use Rattle.std.proofs.Math.Nat.{min-eq_left, min-eq_right}
use Rattle.std.proofs.lemmas.Bool.{cases_lt, le-leb, lt-leb}
use Rattle.mach_base.specs.Answer.{◌>>=◌}
use Rattle.mach_base.specs.Fault.{bad_offset, too_big}
use Rattle.mach_base.specs.Record.{Value}
use Rattle.mach_parts.specs.Fat.{fat_arch_of_values}
use Rattle.goblin_mach.specs.FatFile.{arch_at, arch_place}
use Rattle.goblin_mach_c.specs.FatRows.{fat_row, whole_fat_records}

-- the code of a record in a file of so many bytes, by whether it begins past the end, and whether it is whole
abbrev code_by : (len : ℕ) (following whole : Bool) (s left : ℕ) → List Value → ℕ
code_by len following whole s left values =
    (fat_row len ((if following then Err (bad_offset s) else (if whole then Ok values else Err (too_big 20 left))) >>= λ vs. Ok (fat_arch_of_values vs))).code

cut_by : (len : ℕ) (following whole : Bool) (s left : ℕ) (values : List Value) → whole ≡ false → code_by len following whole s left values ≡ 3
cut_by len true whole s left values e = refl
cut_by len false whole s left values e = rw e refl

place_is : (bytes : List ℕ) (k : ℕ) → length bytes < 2 ^ 64 → k < whole_fat_records bytes → arch_place k ≡ 8 + 20 * k
place_is bytes k short less = min-eq_left (omega (arith, short, less))

pub whole_codes : (bytes : List ℕ) (k : ℕ) → length bytes < 2 ^ 64 → k < whole_fat_records bytes → IsOk (arch_at bytes k)
whole_codes bytes k short less =
    let at = place_is bytes k short less in
    let one : nat_le (length bytes) (arch_place k) ≡ false = lt-leb (length bytes) (arch_place k) (omega (arith, at, less)) in
    let two : nat_le (arch_place k + 20) (length bytes) ≡ true = le-leb (arch_place k + 20) (length bytes) (omega (arith, at, less)) in
    rw (one, two) refl

far : (a b n : ℕ) → n < a + 20 → n < b + 20 → n < min a b + 20
far a b n p q = elim (cases_lt a b) [
  | inl less ↦ (let m : min a b ≡ a = min-eq_left (omega (arith, less)) in omega (arith, m, p))
  | inr more ↦ (let m : min a b ≡ b = min-eq_right more in omega (arith, m, q))
]

pub cut_codes : (bytes : List ℕ) (k : ℕ) → length bytes < 2 ^ 64 → 8 ≤ length bytes → whole_fat_records bytes ≤ k
    → (fat_row (length bytes) (arch_at bytes k)).code ≡ 3
cut_codes bytes k short header more =
    let away : length bytes < arch_place k + 20 = far (8 + 20 * k) (2 ^ 64 - 1) (length bytes) (omega (arith, header, more)) (omega (arith, short)) in
    cut_by (length bytes) (nat_le (length bytes) (arch_place k)) (nat_le (arch_place k + 20) (length bytes)) (arch_place k) (length bytes - arch_place k) _
    (lt-leb (arch_place k + 20) (length bytes) away)
