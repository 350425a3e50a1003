-- The header at a place of the bytes.
use Rattle.std.proofs.Common.{◌≡◌, ℕ, ◌+◌, ◌-◌, ◌<◌, ◌≤◌, true, false, List, length, drop, Ok, Err, nat_le, inl, inr, sym, ap, ◌∙◌, arith}
use Rattle.std.proofs.lemmas.Bool.{cases_lt, lt-leb, le-leb}
use Rattle.std.proofs.lemmas.List.{length-drop}
use Rattle.mach_base.specs.declared.context.Endian.{Endian}
use Rattle.mach_base.specs.declared.context.Container.{Container}
use Rattle.mach_base.specs.declared.context.Container.TheVariants.{Little, Big}
use Rattle.mach_base.specs.declared.context.Ctx.{Ctx}
use Rattle.mach_base.specs.Fault.{Fault, malformed}
use Rattle.mach_base.specs.Front.{front_at, value_of}
use Rattle.mach_base.specs.Record.{Value}
use Rattle.mach_base.proofs.Binds.{same_ok, same_err}
use Rattle.mach_base.proofs.Spelled.{values_in-front}
use Rattle.mach_parts.specs.declared.header.Header.{Header}
use Rattle.mach_parts.specs.Header.{header32_fields, header32_of_values, header64_fields, header64_of_values, header_of_32, held, header_in, header_front}
use Rattle.mach_parts.specs.Header.{IsHeader}

-- the header at a place is the one at the start of the bytes from there on
header_in-front : (w : Container) (le : Endian) (bytes : List ℕ) (o : ℕ) → header_in w le bytes o ≡ header_in w le (drop o bytes) 0
header_in-front Little le bytes o = ap (λ (vs : List Value). header_of_32 (header32_of_values vs)) (values_in-front le header32_fields o bytes)
header_in-front Big le bytes o = ap (λ (vs : List Value). held (header64_of_values vs)) (values_in-front le header64_fields o bytes)

-- a header that was found has 32 bytes
pub header-found : (ctx : Ctx) (bytes : List ℕ) (o : ℕ) (h : Header) → value_of (front_at (header_front ctx) bytes o) ≡ Ok h
    → (o + 32 ≤ length bytes) × IsHeader ctx bytes o h
header-found ctx bytes o h e = elim (cases_lt o (length bytes)) [
  | inr out ↦ absurd (let test : nat_le (length bytes) o ≡ true = le-leb (length bytes) o out in let wrong = rw test at e in cc)
  | inl inside ↦
      let test : nat_le (length bytes) o ≡ false = lt-leb (length bytes) o inside in
      let len : length (drop o bytes) ≡ length bytes - o = length-drop o bytes in
      elim (cases_lt (length (drop o bytes)) 32) [
        | inl short ↦ absurd (let few : nat_le 32 (length (drop o bytes)) ≡ false = lt-leb 32 (length (drop o bytes)) short in
            let wrong = rw (test, few) at e in cc)
        | inr room ↦
            let many : nat_le 32 (length (drop o bytes)) ≡ true = le-leb 32 (length (drop o bytes)) room in
            (omega (arith, len, room, inside), sym (same_ok (rw (test, many) at e)) ∙ sym (header_in-front ctx.container ctx.le bytes o))
      ]
]

-- if bytes are left at the place, a header is missing only because there are fewer than 32
pub header-missed : (ctx : Ctx) (bytes : List ℕ) (o : ℕ) (f : Fault) → o < length bytes → value_of (front_at (header_front ctx) bytes o) ≡ Err f
    → (length bytes < o + 32) × (f ≡ malformed)
header-missed ctx bytes o f inside e =
    let test : nat_le (length bytes) o ≡ false = lt-leb (length bytes) o inside in
    let len : length (drop o bytes) ≡ length bytes - o = length-drop o bytes in
    elim (cases_lt (length (drop o bytes)) 32) [
      | inr room ↦ absurd (let many : nat_le 32 (length (drop o bytes)) ≡ true = le-leb 32 (length (drop o bytes)) room in
          let wrong = rw (test, many) at e in cc)
      | inl short ↦
          let few : nat_le 32 (length (drop o bytes)) ≡ false = lt-leb 32 (length (drop o bytes)) short in
          (omega (arith, len, short, inside), sym (same_err {A = Header} (rw (test, few) at e)))
    ]
