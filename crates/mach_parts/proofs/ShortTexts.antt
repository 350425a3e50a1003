-- A text that ends within a window of bytes is the text at the window's place.
use Rattle.std.proofs.Common.{◌≡◌, ℕ, ◌+◌, ◌-◌, ◌<◌, ◌≤◌, Bool, true, false, List, length, take, drop, Ok, Err, min, refl, sym, ap, subst, ◌∙◌, arith}
use Rattle.std.proofs.Common.{if◌then◌else◌, nat_le}
use Rattle.std.proofs.lemmas.List.{length-drop, length-take, get_or-take, take-take}
use Rattle.std.proofs.lemmas.List.Sums.{position_or_len_is, fails_before_first, passes_at_first}
use Rattle.std.proofs.lemmas.Str.{IsUtf8-from_is_utf8}
use Rattle.std.specs.List.{before_first, position_or_len}
use Rattle.std.specs.Str.{is_utf8, IsUtf8}
use Rattle.mach_base.specs.Fault.{bad_offset, bad_input}
use Rattle.mach_base.specs.Text.{is_zero, text_at, run_at}
use Rattle.mach_base.proofs.Binds.{same_ok}
use Rattle.mach_base.proofs.Fronts.{rest_from-inside}
use Rattle.mach_base.proofs.Runs.{good_text}

-- a text is the run at its place, and is UTF-8
text_is : (bytes text : List ℕ) (s : ℕ) → text_at bytes s ≡ Ok text → (text ≡ run_at bytes s) × (is_utf8 (run_at bytes s) ≡ true)
unfolding text_at
text_is bytes text s e = by (nat_le (length bytes) s) (is_utf8 (run_at bytes s)) e
  where
    by : (past good : Bool) → (if past then Err (bad_offset s) else (if good then Ok (run_at bytes s) else Err (bad_input (length bytes - s)))) ≡ Ok text
        → (text ≡ run_at bytes s) × (good ≡ true)
    by true good is = absurd (cc)
    by false true is = (sym (same_ok is), refl)
    by false false is = absurd (cc)

-- the run of a prefix that contains its zero byte
front_run : (xs : List ℕ) (w : ℕ) → position_or_len is_zero (take w xs) < length (take w xs)
    → before_first is_zero (take w xs) ≡ before_first is_zero xs
front_run xs w ends =
    let ys : List ℕ = take w xs in
    let p : ℕ = position_or_len is_zero ys in
    let len : length ys ≡ min w (length xs) = length-take w xs in
    let first : position_or_len is_zero xs ≡ p =
    position_or_len_is is_zero xs p 0 (omega (arith, len, ends))
    (λ k lt. ap is_zero (sym (get_or-take w xs k 0 (omega (arith, lt, len, ends)))) ∙ fails_before_first is_zero ys k 0 lt)
    (λ lt. ap is_zero (sym (get_or-take w xs p 0 (omega (arith, len, ends)))) ∙ passes_at_first is_zero ys 0 ends) in
    take-take p w xs (omega (arith, len, ends)) ∙ ap (λ n. take n xs) (sym first)

-- the text that ends within a window of w bytes
pub short_text_is : (bytes text : List ℕ) (place w : ℕ) → place + w ≤ length bytes → text_at (take w (drop place bytes)) 0 ≡ Ok text → length text < w
    → text_at bytes place ≡ Ok text
short_text_is bytes text place w room e ends =
    let rest : List ℕ = drop place bytes in
    let ys : List ℕ = take w rest in
    let left = length-drop place bytes in
    let whole = length-take w rest in
    let is = text_is ys text 0 e in
    let long : length text ≡ min (position_or_len is_zero ys) (length ys) = ap length is.0 ∙ length-take (position_or_len is_zero ys) ys in
    let run : text ≡ before_first is_zero rest = is.0 ∙ front_run rest w (omega (arith, long, ends, whole, left, room)) in
    let inside = rest_from-inside bytes rest place (omega (arith, room, ends)) refl in
    good_text bytes rest place text inside run (subst IsUtf8 (sym is.0) (IsUtf8-from_is_utf8 _ is.1))
