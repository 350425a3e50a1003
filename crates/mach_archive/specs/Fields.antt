-- The fields of a member's header (`ar.h`, struct ar_hdr): texts that are padded with spaces.
use Rattle.std.specs.Prelude.{◌==◌, ◌&&◌, ℕ, ◌-◌, Bool, not, List, length, take, Option, Some, None, if◌then◌else◌}
use Rattle.std.specs.Char.{is_digit}
use Rattle.std.specs.List.{before_first, suffix_len, list_all}
use Rattle.std.specs.Str.Parse.{digits_value}

abbrev pub is_space : ℕ → Bool
is_space b = b == 0x20

-- some bytes without those at their end that pass the test
abbrev pub without_end : (ℕ → Bool) → List ℕ → List ℕ
without_end test bytes = take (length bytes - suffix_len test bytes) bytes

-- a field up to its first space
abbrev pub word_of : List ℕ → List ℕ
word_of field = before_first is_space field

-- the number of a text in a base: one digit or more, and nothing else
abbrev pub numeral : ℕ → List ℕ → Option ℕ
numeral base text =
    if not (length text == 0) && list_all (λ c. is_digit c base) text then Some (digits_value base text) else None

-- the number of a field; trailing spaces are ignored
abbrev pub field_number : ℕ → List ℕ → Option ℕ
field_number base field = numeral base (without_end is_space field)
