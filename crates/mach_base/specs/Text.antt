-- Texts: bytes up to a zero byte, as in load commands, string tables and tries.
use Rattle.std.specs.Prelude.{◌==◌, ◌||◌, ℕ, ◌-◌, Bool, List, length, drop, map, Result, Ok, Err, nat_le, if◌then◌else◌}
use Rattle.std.specs.List.{before_first}
use Rattle.std.specs.Str.{is_utf8}
use Rattle.std.specs.Borrow.{Bor}
use Rattle.mach_base.specs.Fault.{Fault, bad_offset, bad_input}

abbrev pub is_zero : ℕ → Bool
is_zero b = b == 0

-- the bytes that end a run of ASCII bytes other than zero
abbrev pub is_stop : ℕ → Bool
is_stop b = is_zero b || nat_le 128 b

-- the longest run without a zero byte that begins at s
abbrev pub run_at : List ℕ → ℕ → List ℕ
run_at bytes s = before_first is_zero (drop s bytes)

-- the text at s: the run there if s lies in the bytes and the run is UTF-8, or else the reason why not
unfoldable pub text_at : List ℕ → ℕ → Result (List ℕ) Fault
text_at bytes s =
    if nat_le (length bytes) s then Err (bad_offset s)
    else (if is_utf8 (run_at bytes s) then Ok (run_at bytes s) else Err (bad_input (length bytes - s)))

-- the bytes of some texts
abbrev pub texts : List (Bor (List ℕ)) → List (List ℕ)
texts libs = map (λ text. text.now) libs
