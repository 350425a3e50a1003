-- Digits, one after another, and what is trimmed from the end.
use Rattle.std.proofs.Common.{◌≡◌, ℕ, ◌+◌, ◌-◌, ◌*◌, ◌^◌, ◌<◌, ◌≤◌, Bool, true, List, length, take, get_or, sym, ap, arith}
use Rattle.std.specs.Char.{digit_value, is_digit}
use Rattle.std.specs.List.{list_all, suffix_len}
use Rattle.std.proofs.lemmas.Bool.{ltb-true}
use Rattle.std.proofs.lemmas.Grind.{pow_more}
use Rattle.std.proofs.lemmas.List.{take_all}
use Rattle.std.proofs.lemmas.List.Elements.{All-get_or}
use Rattle.std.proofs.lemmas.List.Sums.{AllPass-from_list_all, suffix_len-take_yes}
use Rattle.std.proofs.lemmas.Str.Parse.{digit_from_value}
use Rattle.std.proofs.lemmas.Str.{digit_value_digit}
use Rattle.std.proofs.Math.Nat.{pow-le-pow_left, pow-le-pow_right, mul-le-mul_right}
use Rattle.mach_archive.specs.Fields.{without_end}

-- a digit, and its value
pub record IsDigit (base c : ℕ) : Type 0 where
  pub low : 48 ≤ c
  pub value : digit_value c ≡ c - 48
  pub below : c - 48 < base

digit_is : (base c : ℕ) → base ≤ 10 → is_digit c base ≡ true → IsDigit base c
digit_is base c most e =
    let low : digit_value c < base = ltb-true (digit_value c) base e in
    let range = digit_from_value c (omega (arith, low)) in
    let is = digit_value_digit c range in
    record { low = range.0; value = omega (arith, is, range.0); below = omega (arith, is, low, range.0) }

pub digit_at_index : (base : ℕ) (text : List ℕ) (i : ℕ) → base ≤ 10 → list_all (λ c. is_digit c base) text ≡ true → i < length text
    → IsDigit base (get_or text i 0)
digit_at_index base text i most all inside =
    digit_is base (get_or text i 0) most
    (All-get_or (λ c. is_digit c base ≡ true) text i 0 inside (AllPass-from_list_all (λ c. is_digit c base) text all))

-- a number with one digit more
pub one_more_digit : (base number digit i : ℕ) → base ≤ 10 → digit < base → number < base ^ i → i < 16
    → (number * base + digit < base ^ (i + 1)) × (base ^ (i + 1) ≤ 10 ^ 16)
one_more_digit base number digit i most low below short =
    let step : base ^ (i + 1) ≡ base ^ i * base = pow_more base i in
    let times : (number + 1) * base ≤ base ^ i * base = mul-le-mul_right base (let next : number + 1 ≤ base ^ i = omega arith in next) in
    let left : base ^ (i + 1) ≤ 10 ^ (i + 1) = pow-le-pow_left most (i + 1) in
    let right : 10 ^ (i + 1) ≤ 10 ^ 16 = pow-le-pow_right (let some : 0 < 10 = omega arith in some) (let fits : i + 1 ≤ 16 = omega arith in fits) in
    (omega (arith, step, times, low), omega (arith, left, right))

-- the number of all digits is small
pub digits_small : (base number i : ℕ) → base ≤ 10 → number < base ^ i → i ≤ 16 → number < 10 ^ 16
digits_small base number i most below short =
    let left : base ^ i ≤ 10 ^ i = pow-le-pow_left most i in
    let right : 10 ^ i ≤ 10 ^ 16 = pow-le-pow_right (let some : 0 < 10 = omega arith in some) short in
    omega (arith, left, right)

-- one more byte at the end passes the test
pub trim_more : (test : ℕ → Bool) (s : List ℕ) (n : ℕ) → n ≤ length s → 0 < n → test (get_or s (n - 1) 0) ≡ true
    → n + suffix_len test s ≡ length s + suffix_len test (take n s) → n - 1 + suffix_len test s ≡ length s + suffix_len test (take (n - 1) s)
trim_more test s n inside some passes trims =
    let one = suffix_len-take_yes test s n 0 some inside passes in omega (arith, one, trims)

-- no byte at the end passes the test
pub trim_stops : (test : ℕ → Bool) (s : List ℕ) (n : ℕ) → n ≤ length s → suffix_len test (take n s) ≡ 0
    → n + suffix_len test s ≡ length s + suffix_len test (take n s) → take n s ≡ without_end test s
trim_stops test s n inside none trims =
    ap (λ (m : ℕ). take m s) (let is : n ≡ length s - suffix_len test s = omega (arith, none, trims) in is)

pub trim_begins : (test : ℕ → Bool) (s : List ℕ) → length s + suffix_len test s ≡ length s + suffix_len test (take (length s) s)
trim_begins test s = ap (λ (r : List ℕ). length s + suffix_len test r) (sym (take_all (length s) s (let all : length s ≤ length s = omega arith in all)))
