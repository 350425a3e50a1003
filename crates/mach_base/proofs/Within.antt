-- A text that begins within another text ends where that one ends.
use Rattle.std.proofs.Common.{◌≡◌, ℕ, ◌+◌, ◌-◌, ◌<◌, ◌≤◌, Bool, true, false, List, length, take, drop, get_or, Ok, inl, inr, refl, sym, ap, ◌∙◌, arith}
use Rattle.std.proofs.Common.{if◌then◌else◌, nat_le, Err, min, not}
use Rattle.std.proofs.lemmas.Bool.{cases_lt, lt-leb, le-leb}
use Rattle.std.proofs.lemmas.List.{length-drop, length-take, drop-drop, drop-take, get_or-drop}
use Rattle.std.proofs.lemmas.List.Sums.{position_or_len_is, fails_before_first, passes_at_first, prefix_len-le-length}
use Rattle.std.specs.List.{before_first, position_or_len}
use Rattle.std.specs.Str.{is_utf8, IsUtf8}
use Rattle.mach_base.specs.Fault.{bad_input}
use Rattle.mach_base.specs.Text.{is_zero, text_at, run_at}
use Rattle.mach_base.proofs.Binds.{same_ok}
use Rattle.mach_base.proofs.Fronts.{rest_from-inside}
use Rattle.mach_base.proofs.Runs.{good_text}

-- a text is the run at its place, which lies in the bytes
text_is : (bytes text : List ℕ) (s : ℕ) → text_at bytes s ≡ Ok text → (s < length bytes) × (text ≡ run_at bytes s)
unfolding text_at
text_is bytes text s e = elim (cases_lt s (length bytes)) [
  | inl inside ↦ (inside, by (is_utf8 (run_at bytes s)) (let test : nat_le (length bytes) s ≡ false = lt-leb (length bytes) s inside in rw test at e))
  | inr out ↦ absurd (let test : nat_le (length bytes) s ≡ true = le-leb (length bytes) s out in let wrong = rw test at e in cc)
]
  where
    by : (good : Bool) → (if good then Ok (run_at bytes s) else Err (bad_input (length bytes - s))) ≡ Ok text → text ≡ run_at bytes s
    by true is = sym (same_ok is)
    by false is = absurd (cc)

-- a run that begins within another run
run_within : (xs : List ℕ) (k : ℕ) → k ≤ position_or_len is_zero xs → position_or_len is_zero xs ≤ length xs
    → before_first is_zero (drop k xs) ≡ drop k (before_first is_zero xs)
run_within xs k le whole =
    let p : ℕ = position_or_len is_zero xs in
    let len = length-drop k xs in
    let on : k + (p - k) ≡ p = omega (arith, le) in
    let first : position_or_len is_zero (drop k xs) ≡ p - k =
    position_or_len_is is_zero (drop k xs) (p - k) 0 (omega (arith, len, le, whole))
    (λ j lt. ap is_zero (get_or-drop k xs j 0) ∙ fails_before_first is_zero xs (k + j) 0 (omega (arith, lt)))
    (λ lt. ap is_zero (get_or-drop k xs (p - k) 0) ∙ ap (λ n. is_zero (get_or xs n 0)) on ∙ passes_at_first is_zero xs 0 (omega (arith, lt, len, le))) in
    ap (λ n. take n (drop k xs)) first ∙ sym (drop-take k (p - k) xs) ∙ ap (λ n. drop k (take n xs)) on

-- the text that begins within another text
pub text_within : (bytes text : List ℕ) (start from : ℕ) → text_at bytes start ≡ Ok text → from < length text → IsUtf8 (drop from text)
    → text_at bytes (start + from) ≡ Ok (drop from text)
text_within bytes text start from e lt good =
    let is = text_is bytes text start e in
    let xs : List ℕ = drop start bytes in
    let p : ℕ = position_or_len is_zero xs in
    let long : length text ≡ min p (length xs) = ap length is.1 ∙ length-take p xs in
    let whole : p ≤ length xs = prefix_len-le-length (λ b. not (is_zero b)) xs in
    let rest : drop from text ≡ before_first is_zero (drop (start + from) bytes) =
    ap (drop from) is.1 ∙ sym (run_within xs from (omega (arith, long, lt)) whole) ∙ ap (before_first is_zero) (drop-drop from start bytes) in
    let inside : start + from < length bytes = let len = length-drop start bytes in omega (arith, long, lt, len, is.0) in
    good_text bytes (drop (start + from) bytes) (start + from) (drop from text) (rest_from-inside bytes (drop (start + from) bytes)
    (start + from) inside refl) rest good
