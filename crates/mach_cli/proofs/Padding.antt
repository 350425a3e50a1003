-- Spaces, and numbers that are filled up by them.
use Rattle.std.proofs.Common.{◌≡◌, ◌∙◌, ℕ, zero, suc, ◌≤◌, ◌-◌, ◌^◌, ◌==◌, ◌&&◌, cond, true, false, sym, List, [], ◌∷◌, ◌++◌, length, take, refl, ap, arith}
use Rattle.std.proofs.lemmas.Bool.{ne_eqb}
use Rattle.std.proofs.Math.Utf8.{encode}
use Rattle.std.specs.Fmt.{char_count, digits, digits_onto, format_spec, padded, padded_integral, take_chars}
use Rattle.std.specs.List.{repeat}
use Rattle.mach_cli.specs.Fields.{spaces}

take_spaces : (n m : ℕ) → n ≤ m → take {A = ℕ} n (repeat m (0x20 ∷ [])) ≡ repeat n (0x20 ∷ [])
take_spaces zero m less = refl
take_spaces (suc n) zero less = absurd (omega (arith, less))
take_spaces (suc n) (suc m) less = ap (λ t. 0x20 ∷ t) (take_spaces n m (omega (arith, less)))

repeated : (n : ℕ) → repeat n (0x20 ∷ []) ≡ spaces n
unfolding padded take_chars char_count encode
repeated zero = refl
repeated (suc n) =
    let some : (suc n == 0 && true) ≡ false = rw (ne_eqb (suc n) 0 (λ e. omega (arith, e))) refl in
    let all : suc n ≡ suc n - 0 - 0 = omega arith in
    ap (λ (k : ℕ). repeat {A = ℕ} k (0x20 ∷ [])) all ∙ sym (ap (λ b. cond b [] (repeat {A = ℕ} (suc n - 0 - 0) (0x20 ∷ []))) some)

-- the first of m spaces
pub first_spaces : (n m : ℕ) → n ≤ m → take {A = ℕ} (n - 0) (repeat m (0x20 ∷ [])) ≡ spaces n
first_spaces n m within =
    let low : n - 0 ≡ n = omega arith in
    ap (λ (k : ℕ). take {A = ℕ} k (repeat m (0x20 ∷ []))) low ∙ take_spaces n m within ∙ repeated n

-- digits at the left end of a column
pub padded_after : (width : ℕ) (ds : List ℕ) → padded_integral (format_spec 32 1 0 width (2 ^ 64 - 1)) false [] ds ≡ ds ++ spaces (width - length ds)
unfolding padded_integral char_count encode
padded_after width ds =
    let all : width - length ds - 0 - 0 - 0 ≡ width - length ds = omega arith in
    ap (λ (k : ℕ). ds ++ repeat {A = ℕ} k (0x20 ∷ [])) all ∙ ap (λ t. ds ++ t) (repeated (width - length ds))

-- digits that are written from the last one on
pub digits_from : (base n : ℕ) (rest : List ℕ) → rest ≡ [] → digits_onto 64 base false n rest ≡ digits base false n
unfolding digits
digits_from base n rest none = ap (digits_onto 64 base false n) none
