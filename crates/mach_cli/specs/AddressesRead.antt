-- The addresses that lines give.
use Rattle.std.specs.Prelude.{◌≡◌, ◌==◌, ◌<◌, ◌+◌, ◌-◌, ◌||◌, ℕ, List, length, take, drop, get_or, Bool, true, false, is_some, if◌then◌else◌, Option, None}
use Rattle.std.specs.Char.{is_ascii_whitespace}
use Rattle.std.specs.List.{list_all, prefix_len, suffix_len}
use Rattle.std.specs.Str.{is_utf8}
use Rattle.mach_cli.specs.Calls.{word_address}
use Rattle.mach_cli.specs.declared.misuse.Misuse.{Misuse}
use Rattle.mach_cli.specs.declared.misuse.Misuse.TheVariants.{NoAddressLine}
use Rattle.mach_cli.specs.declared.word.NoText.{NoText}

-- a line without the white space at its end, and without that at both ends (ASCII)
abbrev pub before_space : List ℕ → List ℕ
before_space line = take (length line - suffix_len is_ascii_whitespace line) line

abbrev pub without_space : List ℕ → List ℕ
without_space line = before_space (drop (prefix_len is_ascii_whitespace line) line)

-- the address that bytes without white space around them give
abbrev pub bytes_address : List ℕ → Option ℕ
bytes_address bytes = if is_utf8 bytes then word_address bytes else None

-- the address that a line gives
abbrev pub line_address : List ℕ → Option ℕ
line_address line = bytes_address (without_space line)

-- whether a line is blank, or gives an address
abbrev pub is_address_line : List ℕ → Bool
is_address_line line = (length (without_space line) == 0) || is_some (line_address line)

-- The misuse reports the first line that is neither blank nor gives an address, with its number from 1.
pub record IsAddressMisuse (lines : List (List ℕ)) (misuse : Misuse) : Type 0 where
  pub line : NoText
  pub reported : misuse ≡ NoAddressLine line
  pub number : ℕ
  pub is_number : line.number ≡ number + 1
  pub is_line : (number < length lines) × (line.bytes.now ≡ get_or lines number line.bytes.now)
  pub before : list_all is_address_line (take number lines) ≡ true
  pub is_none : is_address_line line.bytes.now ≡ false
