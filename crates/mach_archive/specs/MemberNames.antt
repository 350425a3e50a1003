-- Names of members: short ones, and long ones of both forms.
use Rattle.std.specs.Prelude.{◌≡◌, ◌==◌, ◌||◌, ℕ, ◌+◌, ◌-◌, Bool, List, length, take, drop, Option, Some, None, Result, Ok, Err, nat_eq, nat_lt}
use Rattle.std.specs.Prelude.{if◌then◌else◌, codes, unwrap_or}
use Rattle.std.specs.List.{before_first, starts_with, ends_with}
use Rattle.std.specs.Str.{bytes_eq, is_utf8}
use Rattle.mach_base.specs.Answer.{◌>>=◌}
use Rattle.mach_base.specs.Fault.{Fault, malformed, bad_input}
use Rattle.mach_base.specs.Sums.{found_or_malformed}
use Rattle.mach_base.specs.Text.{is_zero}
use Rattle.mach_archive.specs.Fields.{is_space, without_end, word_of, numeral}
use Rattle.mach_archive.specs.MemberHeaders.{name_field}
use Rattle.mach_archive.specs.Members.{LongNames, MemberView}
use Rattle.mach_archive.specs.Places.{PlacedText, IsTextAt}

abbrev pub is_newline : ℕ → Bool
is_newline b = b == 0x0a

abbrev pub is_slash : ℕ → Bool
is_slash b = b == 0x2f

-- the line at a place, which must end with a newline
abbrev pub line_at : List ℕ → ℕ → Result (List ℕ) Fault
line_at names n =
    let line = before_first is_newline (drop n names) in
    if nat_lt (n + length line) (length names) then Ok line else Err malformed

-- bytes without the slash that must end them
abbrev pub before_slash : List ℕ → Result (List ℕ) Fault
before_slash line = if ends_with nat_eq line (codes "/") then Ok (take (length line - 1) line) else Err malformed

-- a name field in GNU's form: `/` and `//`, which are no names of files; the place of a long name; or a name up to its slash
abbrev pub gnu_name : List ℕ → List ℕ → Result (List ℕ) Fault
gnu_name names field =
    let word = word_of field in
    if bytes_eq word (codes "/") || bytes_eq word (codes "//") then Ok word
    else (if starts_with nat_eq field (codes "/") then
    (found_or_malformed (numeral 10 (drop 1 word)) >>= line_at names) >>= before_slash
    else Ok (without_end is_space (before_first is_slash field)))

-- a name field, decoded for the archive's form
abbrev pub short_name : LongNames → List ℕ → Result (List ℕ) Fault
short_name None field = Ok (word_of field)
short_name (Some names) field = gnu_name names.text field

-- a long name without the zeros at its end, or else the short name
abbrev pub name_by : Option PlacedText → LongNames → List ℕ → Result (List ℕ) Fault
name_by (Some long) names field = Ok (without_end is_zero long.text)
name_by None names field = short_name names field

abbrev pub member_name_bytes : MemberView → Result (List ℕ) Fault
member_name_bytes m = name_by m.long m.names (name_field m.fields)

-- the place of a name in GNU's form: in the list of names if the field refers to it, or else that of the header, with which the field begins
abbrev pub gnu_place : (names header : ℕ) → List ℕ → ℕ
gnu_place names header field =
    let word = word_of field in
    if bytes_eq word (codes "/") || bytes_eq word (codes "//") then header
    else (if starts_with nat_eq field (codes "/") then names + unwrap_or (numeral 10 (drop 1 word)) 0 else header)

abbrev pub short_name_place : LongNames → (header : ℕ) → List ℕ → ℕ
short_name_place None header field = header
short_name_place (Some names) header field = gnu_place names.place header field

-- the place of a member's name in the archive: that of the long name, or else that of the short one
abbrev pub name_place_by : Option PlacedText → LongNames → (header : ℕ) → List ℕ → ℕ
name_place_by (Some long) names header field = long.place
name_place_by None names header field = short_name_place names header field

abbrev pub member_name_place : MemberView → ℕ
member_name_place m = name_place_by m.long m.names m.offset (name_field m.fields)

-- the place of its name, and how many bytes that has; or why it can't be read
abbrev pub member_name_at : MemberView → Result (ℕ × ℕ) Fault
member_name_at m = member_name_bytes m >>= (λ name. Ok (member_name_place m, length name))

-- a member's name, if it can be read, is in the bytes at its place
abbrev pub NameIsThere : List ℕ → MemberView → Type 0
NameIsThere bytes m = (name : List ℕ) → member_name_bytes m ≡ Ok name → IsTextAt name bytes (member_name_place m)

-- bytes, if they are UTF-8
abbrev pub text_or_fault : List ℕ → Result (List ℕ) Fault
text_or_fault name = if is_utf8 name then Ok name else Err (bad_input (length name))

abbrev pub member_name : MemberView → Result (List ℕ) Fault
member_name m = member_name_bytes m >>= text_or_fault
