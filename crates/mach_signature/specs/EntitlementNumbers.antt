-- The numbers of entitlements, by their digits.
use Rattle.std.specs.Prelude.{ℕ, ◌+◌, ◌-◌, ◌*◌, ◌^◌, ◌==◌, ◌&&◌, Bool, List, [], ◌∷◌, length, nat_le, nat_lt, if◌then◌else◌}
use Rattle.std.specs.Prelude.{Option, Some, None, Result, Ok, Err}
use Rattle.mach_base.specs.Answer.{◌>>=◌}
use Rattle.mach_base.specs.Fault.{Fault, malformed}
use Rattle.mach_base.specs.Sums.{found_or_malformed}
use Rattle.mach_signature.specs.EntitlementValues.{PlainEntitlement, numeral}
use Rattle.mach_signature.specs.declared.entitlements.digits.Digits.{Digits}
use Rattle.mach_signature.specs.declared.entitlements.digits.Digits.TheVariants.{Decimal, Hexadecimal, Bytes, Turned}
use Rattle.mach_signature.specs.declared.entitlements.parts.NumberKind.TheVariants.{Natural, BelowZero}

-- ---- digits

abbrev pub is_between : (least most c : ℕ) → Bool
is_between least most c = nat_le least c && nat_le c most

abbrev pub digit_base : Digits → ℕ
digit_base Decimal = 10
digit_base Hexadecimal = 16
digit_base Bytes = 256
digit_base Turned = 256

-- the digit that a byte is: a letter of the decimal or the hexadecimal system, the byte itself, or the byte with each bit turned
abbrev pub entitlement_digit : Digits → (byte : ℕ) → Option ℕ
entitlement_digit Decimal byte = if is_between 48 57 byte then Some (byte - 48) else None
entitlement_digit Hexadecimal byte =
    if is_between 48 57 byte then Some (byte - 48)
    else (if is_between 65 70 byte then Some (byte - 55) else (if is_between 97 102 byte then Some (byte - 87) else None))
entitlement_digit Bytes byte = Some byte
entitlement_digit Turned byte = Some (255 - byte)

-- a number with one digit more, if it stays below 2^64
abbrev pub with_digit : Digits → (number : ℕ) → Option ℕ → Option ℕ
with_digit digits number None = None
with_digit digits number (Some d) =
    if nat_lt (number * digit_base digits + d) (2 ^ 64) then Some (number * digit_base digits + d) else None

-- the number of digits after others
abbrev pub digits_after : Digits → (number : ℕ) → List ℕ → Result ℕ Fault
digits_after digits number [] = Ok number
digits_after digits number (x ∷ xs) = found_or_malformed (with_digit digits number (entitlement_digit digits x)) >>= (λ n. digits_after digits n xs)

-- the number of one or more digits
abbrev pub number_in : Digits → List ℕ → Result ℕ Fault
number_in digits bytes = if length bytes == 0 then Err malformed else digits_after digits 0 bytes

-- ---- integers

abbrev pub natural : ℕ → Result PlainEntitlement Fault
natural n = Ok (numeral Natural n)

-- the integer -1 - n, which is -2^63 or more
abbrev pub below_zero : ℕ → Result PlainEntitlement Fault
below_zero n = if nat_lt n (2 ^ 63) then Ok (numeral BelowZero n) else Err malformed

-- the integer -n
abbrev pub minus : ℕ → Result PlainEntitlement Fault
minus n = if n == 0 then natural 0 else below_zero (n - 1)

-- ---- numbers in a form: each `0` of the form is a decimal digit, and each other byte is itself

abbrev pub next_by_form : (form number byte : ℕ) → Option ℕ
next_by_form form number byte =
    if form == 48 then with_digit Decimal number (entitlement_digit Decimal byte) else (if byte == form then Some number else None)

abbrev pub number_by_form : (form : List ℕ) → (number : ℕ) → List ℕ → Result ℕ Fault
number_by_form [] number [] = Ok number
number_by_form [] number (x ∷ xs) = Err malformed
number_by_form (f ∷ fs) number [] = Err malformed
number_by_form (f ∷ fs) number (x ∷ xs) = found_or_malformed (next_by_form f number x) >>= (λ n. number_by_form fs n xs)
