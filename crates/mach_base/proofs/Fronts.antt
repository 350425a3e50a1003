-- The bytes from an offset on, and the record there.
use Rattle.std.proofs.Common.{◌≡◌, ℕ, ◌+◌, ◌-◌, ◌<◌, true, false, List, length, drop, Ok, nat_le, inl, inr, refl, sym, ap, ◌∙◌, arith}
use Rattle.std.proofs.lemmas.Bool.{cases_lt, lt-leb, le-leb}
use Rattle.std.proofs.lemmas.List.{length-drop}
use Rattle.mach_base.specs.declared.context.Endian.{Endian}
use Rattle.mach_base.specs.Front.{front_at, value_of, record_front}
use Rattle.mach_base.specs.Number.{rest_from}
use Rattle.mach_base.specs.Record.{Field, size, record_at}
use Rattle.mach_base.proofs.Binds.{same_ok}
use Rattle.mach_base.proofs.Spelled.{values_in-front}

-- the bytes from an offset on
pub rest_from-ok : (bytes rest : List ℕ) (s : ℕ) → rest_from bytes s ≡ Ok rest → (s < length bytes) × (rest ≡ drop s bytes)
rest_from-ok bytes rest s e = elim (cases_lt s (length bytes)) [
  | inl inside ↦ (inside, sym (same_ok (let test : nat_le (length bytes) s ≡ false = lt-leb (length bytes) s inside in rw test at e)))
  | inr out ↦ absurd (let test : nat_le (length bytes) s ≡ true = le-leb (length bytes) s out in let wrong = rw test at e in cc)
]

pub rest_from-inside : (bytes rest : List ℕ) (s : ℕ) → s < length bytes → rest ≡ drop s bytes → rest_from bytes s ≡ Ok rest
rest_from-inside bytes rest s inside is =
    let test : nat_le (length bytes) s ≡ false = lt-leb (length bytes) s inside in
    rw (test, is) refl

-- their number
pub length-rest_from : (bytes rest : List ℕ) (s : ℕ) → rest_from bytes s ≡ Ok rest → length bytes - s ≡ length rest
length-rest_from bytes rest s e = sym (ap length (rest_from-ok bytes rest s e).1 ∙ length-drop s bytes)

-- what `pread_with` reads for a record is the record there
pub record_at_offset : (le : Endian) (fields : List Field) (bytes : List ℕ) (s : ℕ)
    → value_of (front_at (record_front le fields) bytes s) ≡ record_at le fields bytes s
record_at_offset le fields bytes s = elim (cases_lt s (length bytes)) [
  | inr out ↦ let test : nat_le (length bytes) s ≡ true = le-leb (length bytes) s out in rw test refl
  | inl inside ↦
      let len : length (drop s bytes) ≡ length bytes - s = length-drop s bytes in
      let test : nat_le (length bytes) s ≡ false = lt-leb (length bytes) s inside in
      let some : nat_le (length (drop s bytes)) 0 ≡ false = lt-leb (length (drop s bytes)) 0 (omega (arith, len)) in
      elim (cases_lt (length bytes) (s + size fields)) [
        | inl short ↦
            let here : nat_le (s + size fields) (length bytes) ≡ false = lt-leb (s + size fields) (length bytes) short in
            let front : nat_le (0 + size fields) (length (drop s bytes)) ≡ false = lt-leb (0 + size fields) (length (drop s bytes)) (omega (arith, len)) in
            let left : length (drop s bytes) - 0 ≡ length bytes - s = omega (arith, len) in
            rw (test, some, here, front, left) refl
        | inr room ↦
            let here : nat_le (s + size fields) (length bytes) ≡ true = le-leb (s + size fields) (length bytes) room in
            let front : nat_le (0 + size fields) (length (drop s bytes)) ≡ true = le-leb (0 + size fields) (length (drop s bytes)) (omega (arith, len)) in
            rw (test, some, here, front, values_in-front le fields s bytes) refl
      ]
]
