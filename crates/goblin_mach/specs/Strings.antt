-- The strings of a section (`mach-o/loader.h`, S_CSTRING_LITERALS).
use Rattle.std.specs.Prelude.{ℕ, ◌+◌, List, [], ◌∷◌, drop, Result, Ok, if◌then◌else◌}
use Rattle.mach_base.specs.Answer.{◌>>=◌}
use Rattle.mach_base.specs.Fault.{Fault}
use Rattle.mach_base.specs.Text.{is_zero}
use Rattle.mach_records.specs.declared.segments.Section64.{Section64}
use Rattle.mach_parts.specs.SectionRecord.{bytes_of_section}
use Rattle.goblin_mach.specs.declared.strings.SectionString.{SectionString}
use Rattle.goblin_mach.specs.declared.strings.StringIterator.{StringIterator}

-- the string that begins with a byte at a place and goes on as the first of those after it, and the others
abbrev pub begun_with : (place b : ℕ) → List (ℕ × List ℕ) → List (ℕ × List ℕ)
begun_with place b [] = (place, b ∷ []) ∷ []
begun_with place b (s ∷ ss) = (place, b ∷ s.1) ∷ ss

-- the strings of some bytes, each with its place, if the first byte has a place: a zero ends each, and the last may lack it
abbrev pub strings_from : ℕ → List ℕ → List (ℕ × List ℕ)
strings_from place [] = []
strings_from place (b ∷ bs) =
    if is_zero b then (place, []) ∷ strings_from (place + 1) bs
    else begun_with place b (strings_from (place + 1) bs)

-- the strings of a section, each with its place from the section's first byte, or the reason why the section isn't there
abbrev pub strings_of_section : List ℕ → Section64 → Result (List (ℕ × List ℕ)) Fault
strings_of_section bytes s = bytes_of_section bytes s >>= (λ held. Ok (strings_from 0 held))

-- a string, as it was returned
abbrev pub string_read : SectionString → ℕ × List ℕ
string_read s = (s.place, s.bytes.now)

-- the remaining strings of an iterator
abbrev pub strings_left : StringIterator → List (ℕ × List ℕ)
strings_left it = strings_from it.place (drop it.place it.held.now)
