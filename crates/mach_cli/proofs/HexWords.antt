-- Numbers in arguments.
use Rattle.std.proofs.Common.{◌≡◌, ◌≤◌, ◌∙◌, ◌^◌, ℕ, List, [], ◌∷◌, Option, Some, None, Result, Ok, Err, true, false, drop, length, refl, sym, ap, subst, arith}
use Rattle.std.proofs.Math.Nat.{pow-le-pow_right}
use Rattle.std.proofs.lemmas.Bool.{lt-ltb, ltb-true, le-leb, leb-true}
use Rattle.std.proofs.lemmas.Int.Digits.{digits_value-lt}
use Rattle.std.specs.Char.{digit_value}
use Rattle.std.specs.List.{list_all, slice_index}
use Rattle.std.specs.Prelude.{◌==◌, ◌&&◌, ◌<◌, Bool, cond, nat_le, nat_lt}
use Rattle.std.specs.Option.{IfNone}
use Rattle.std.specs.Result.{OkIff, result_ok}
use Rattle.std.specs.Str.Parse.{AllDigits, IsNumeral, ParsesUnsigned, digits_value, without_leading_plus}
use Rattle.mach_cli.specs.Calls.{are_hex_digits, hex_value}

plain : (digits : List ℕ) → (slice_index digits 0 == 43) ≡ false → without_leading_plus digits ≡ digits
plain digits none = ap (λ (b : Bool). drop (cond b 1 0) digits) none

both : (a b : Bool) → (a && b) ≡ true → (a ≡ true) × (b ≡ true)
both true b h = (refl, h)
both false b h = cc

pass : (digits : List ℕ) → AllDigits 16 digits → list_all (λ c. nat_lt (digit_value c) 16) digits ≡ true
pass [] all = refl
pass (c ∷ cs) all = rw (lt-ltb (digit_value c) 16 all.0) (pass cs all.1)

passed : (digits : List ℕ) → list_all (λ c. nat_lt (digit_value c) 16) digits ≡ true → AllDigits 16 digits
passed [] all = tt
passed (c ∷ cs) all =
    let parts = both (nat_lt (digit_value c) 16) (list_all (λ c. nat_lt (digit_value c) 16) cs) all in
    (ltb-true (digit_value c) 16 parts.0, passed cs parts.1)

are_digits : (most : ℕ) (digits : List ℕ) → IsNumeral 16 digits → length digits ≤ most → are_hex_digits most digits ≡ true
are_digits most digits numeral few = rw (lt-ltb 0 (length digits) numeral.0, le-leb (length digits) most few) (pass digits numeral.1)

numeral_of : (most : ℕ) (digits : List ℕ) → are_hex_digits most digits ≡ true → IsNumeral 16 digits
numeral_of most digits are =
    let some = nat_lt 0 (length digits) in
    let few = nat_le (length digits) most in
    let parts = both (some && few) (list_all (λ c. nat_lt (digit_value c) 16) digits) are in
    (ltb-true 0 (length digits) (both some few parts.0).0, passed digits parts.1)

fits : (most : ℕ) (digits : List ℕ) → are_hex_digits most digits ≡ true → length digits ≤ most
fits most digits are =
    let some = nat_lt 0 (length digits) in
    let few = nat_le (length digits) most in
    let parts = both (some && few) (list_all (λ c. nat_lt (digit_value c) 16) digits) are in
    leb-true (length digits) most (both some few parts.0).1

abbrev number_or : Option ℕ → ℕ
number_or None = 0
number_or (Some n) = n

-- digits without a plus are read as they are
pub value_read : {E : Type 0} (most : ℕ) (digits : List ℕ) (r : Result ℕ E) → most ≤ 16 → length digits ≤ most → (slice_index digits 0 == 43) ≡ false
    → ParsesUnsigned 64 16 digits r → result_ok r ≡ hex_value most (Some digits)
value_read most digits (Ok n) limit few none read =
    let same = plain digits none in
    let numeral : IsNumeral 16 digits = subst (λ (ds : List ℕ). IsNumeral 16 ds) same read.0.0 in
    rw (are_digits most digits numeral few) (ap Some (read.1 ∙ ap (digits_value 16) same))
value_read most digits (Err e) limit few none read =
    let are = are_hex_digits most digits in
    elim are as (λ b. are ≡ b → None ≡ hex_value most (Some digits)) [
      | true ↦ λ is.
          let numeral : IsNumeral 16 digits = numeral_of most digits is in
          let less = digits_value-lt 16 digits numeral.1 in
          let within : length digits ≤ 16 = omega arith in
          let high : 16 ^ length digits ≤ 16 ^ 16 = pow-le-pow_right (omega arith) within in
          let both : IsNumeral 16 digits × (digits_value 16 digits < 2 ^ 64) = (numeral, omega (arith, less, high)) in
          absurd (read (subst (λ (ds : List ℕ). IsNumeral 16 ds × (digits_value 16 ds < 2 ^ 64)) (sym (plain digits none)) both))
      | false ↦ λ is. rw is refl
    ] refl

-- the number is below the power of 16 of so many digits
pub hex_value-lt : (most : ℕ) (digits : Option (List ℕ)) (n : ℕ) → hex_value most digits ≡ Some n → n < 16 ^ most
hex_value-lt most None n is = cc
hex_value-lt most (Some digits) n is =
    let are = are_hex_digits most digits in
    elim are as (λ b. are ≡ b → n < 16 ^ most) [
      | true ↦ λ it.
          let numeral : IsNumeral 16 digits = numeral_of most digits it in
          let few : length digits ≤ most = fits most digits it in
          let less = digits_value-lt 16 digits numeral.1 in
          let high : 16 ^ length digits ≤ 16 ^ most = pow-le-pow_right (omega arith) few in
          let same : Some (digits_value 16 digits) ≡ Some n = rw it at is in
          let equal : digits_value 16 digits ≡ n = ap number_or same in
          omega (arith, less, high, equal)
      | false ↦ λ it. let same : None ≡ Some n = rw it at is in cc
    ] refl

-- so 8 digits are a number of 32 bits
pub eight_fit : {E : Type 0} (P : Type 0) (digits : Option (List ℕ)) (n : ℕ) (r : Result ℕ E) → hex_value 8 digits ≡ Some n
    → OkIff r (n < 2 ^ 32) n → IfNone (result_ok r) P
eight_fit P digits n (Ok m) is read = cc
eight_fit P digits n (Err e) is read = let less = hex_value-lt 8 digits n is in absurd (read (omega (arith, less)))
