-- The strings of some bytes, one by one.
use Rattle.std.proofs.Common.{◌≡◌, ℕ, suc, ◌+◌, ◌<◌, Bool, true, false, not, List, [], ◌∷◌, length, take, drop, get_or, refl, sym, ap, ◌∙◌, arith, cond}
use Rattle.std.proofs.lemmas.List.{drop-drop, drop_more}
use Rattle.std.specs.List.{position_or_len}
use Rattle.mach_base.specs.Text.{is_zero}
use Rattle.goblin_mach.specs.Strings.{begun_with, strings_from}

-- the first string of some bytes, which has so many, and those after it
abbrev first_then : (place len : ℕ) → List ℕ → List (ℕ × List ℕ)
first_then place len bytes = (place, take len bytes) ∷ strings_from (place + suc len) (drop (suc len) bytes)

-- by whether the first byte is zero
by_byte : (zero : Bool) (place b len : ℕ) (bs : List ℕ) → begun_with place b (strings_from (place + 1) bs) ≡ first_then place (suc len) (b ∷ bs)
    → cond zero ((place, []) ∷ strings_from (place + 1) bs) (begun_with place b (strings_from (place + 1) bs))
    ≡ first_then place (cond (not zero) (1 + len) 0) (b ∷ bs)
by_byte true place b len bs is = refl
by_byte false place b len bs is = let n : suc len ≡ 1 + len = omega arith in is ∙ ap (λ (k : ℕ). first_then place k (b ∷ bs)) n

first_string : (place b : ℕ) (bs : List ℕ) → strings_from place (b ∷ bs) ≡ first_then place (position_or_len is_zero (b ∷ bs)) (b ∷ bs)
first_string place b [] = by_byte (is_zero b) place b 0 [] refl
first_string place b (c ∷ cs) =
    let len = position_or_len is_zero (c ∷ cs) in
    let on : place + 1 + suc len ≡ place + suc (suc len) = omega arith in
    by_byte (is_zero b) place b len (c ∷ cs) (ap (begun_with place b) (first_string (place + 1) c cs)
    ∙ ap (λ (n : ℕ). (place, b ∷ take len (c ∷ cs)) ∷ strings_from n (drop (suc len) (c ∷ cs))) on)

-- the strings that are left, and those after the first of them
pub next_string : (held rest : List ℕ) (place len : ℕ) → rest ≡ drop place held → place < length held → len ≡ position_or_len is_zero rest
    → strings_from place (drop place held) ≡ (place, take len rest) ∷ strings_from (place + (len + 1)) (drop (place + (len + 1)) held)
next_string held rest place len from inside is =
    let b = get_or held place 0 in
    let first : rest ≡ b ∷ drop (place + 1) held = from ∙ drop_more held place 0 inside in
    let more : suc len ≡ len + 1 = omega arith in
    ap (strings_from place) (sym from ∙ first) ∙ first_string place b (drop (place + 1) held)
    ∙ ap (λ (bytes : List ℕ). first_then place (position_or_len is_zero bytes) bytes) (sym first)
    ∙ ap (λ (n : ℕ). first_then place n rest) (sym is)
    ∙ ap (λ (n : ℕ). (place, take len rest) ∷ strings_from (place + n) (drop n rest)) more
    ∙ ap (λ (xs : List ℕ). (place, take len rest) ∷ strings_from (place + (len + 1)) xs) (ap (drop (len + 1)) from ∙ drop-drop (len + 1) place held)
