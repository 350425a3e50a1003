-- Runs without a zero byte, and texts.
use Rattle.std.proofs.Common.{◌≡◌, ℕ, Bool, true, false, List, length, Option, Some, None, Ok, Err, IsErr, MatchOption, nat_le, refl, sym, ap, ◌∙◌}
use Rattle.std.proofs.Common.{arith, unwrap_or}
use denote.Bor.{Bor}
use Rattle.std.proofs.lemmas.Bool.{lt-leb}
use Rattle.std.proofs.lemmas.List.Sums.{position_or_len_is}
use Rattle.std.proofs.lemmas.Str.{IsUtf8-from_is_utf8, is_utf8-from_IsUtf8}
use Rattle.std.specs.List.{before_first, position_or_len}
use Rattle.std.specs.Str.{is_utf8, IsUtf8}
use Rattle.memchr.specs.Find.{IsFirstByte}
use Rattle.mach_base.specs.Fault.{bad_input}
use Rattle.mach_base.specs.Number.{rest_from}
use Rattle.mach_base.specs.Text.{is_zero, text_at, run_at}
use Rattle.mach_base.proofs.Fronts.{rest_from-ok, length-rest_from}

not_true : (b : Bool) → (b ≡ true → ⊥) → b ≡ false
not_true true h = absurd (h refl)
not_true false h = refl

pub first_len : (test : ℕ → Bool) (bytes : List ℕ) (r : Option ℕ) → IsFirstByte test bytes r → unwrap_or r (length bytes) ≡ position_or_len test bytes
first_len test bytes None h =
    sym (position_or_len_is test bytes (length bytes) 0 (omega arith) (λ k lt. not_true _ (h k (omega arith) lt)) (λ lt. absurd (omega (arith, lt))))
first_len test bytes (Some k) h =
    sym (position_or_len_is test bytes k 0 (omega (arith, h.0.high)) (λ j lt. not_true _ (h.0.before j (omega arith) lt)) (λ lt. h.1))

not_utf8_by : (bs : List ℕ) (b : Bool) → is_utf8 bs ≡ b → ¬ IsUtf8 bs → is_utf8 bs ≡ false
not_utf8_by bs true e n = absurd (n (IsUtf8-from_is_utf8 bs e))
not_utf8_by bs false e n = e

-- the text, if the run is UTF-8
pub good_text : (bytes rest : List ℕ) (s : ℕ) (run : List ℕ) → rest_from bytes s ≡ Ok rest → run ≡ before_first is_zero rest → IsUtf8 run
    → text_at bytes s ≡ Ok run
unfolding text_at
good_text bytes rest s run e is u =
    let inside = rest_from-ok bytes rest s e in
    let test : nat_le (length bytes) s ≡ false = lt-leb (length bytes) s inside.0 in
    let same : run ≡ run_at bytes s = is ∙ ap (before_first is_zero) inside.1 in
    let good = is_utf8-from_IsUtf8 run u in rw (test, ← same, good) refl

-- the fault, if it is not
pub bad_text : (bytes rest : List ℕ) (s : ℕ) (run : List ℕ) → rest_from bytes s ≡ Ok rest → run ≡ before_first is_zero rest → ¬ IsUtf8 run
    → text_at bytes s ≡ Err (bad_input (length rest))
unfolding text_at
bad_text bytes rest s run e is u =
    let inside = rest_from-ok bytes rest s e in
    let test : nat_le (length bytes) s ≡ false = lt-leb (length bytes) s inside.0 in
    let same : run ≡ run_at bytes s = is ∙ ap (before_first is_zero) inside.1 in
    let bad = not_utf8_by run (is_utf8 run) refl u in rw (test, ← same, bad, length-rest_from bytes rest s e) refl

-- the text that is read, or that there is none
pub text_found : (bytes rest : List ℕ) (s : ℕ) (run : List ℕ) (r : Option (Bor (List ℕ))) → rest_from bytes s ≡ Ok rest
    → run ≡ before_first is_zero rest → MatchOption r (¬ IsUtf8 run) (λ text. (text.now ≡ run) × IsUtf8 run)
    → MatchOption r (IsErr (text_at bytes s)) (λ text. text_at bytes s ≡ Ok text.now)
text_found bytes rest s run None e is bad = rw (bad_text bytes rest s run e is bad) refl
text_found bytes rest s run (Some text) e is good = rw good.0 (good_text bytes rest s run e is good.1)
