-- The code of a fault for C (`goblin_mach.h`, GM_MALFORMED and the following ones).
use Rattle.std.specs.Prelude.{◌≡◌, ◌⊎◌, ℕ, ◌-◌, ◌≤◌, List, [], ◌++◌, false, codes, length, min, nat_lt, replicate, take, if◌then◌else◌}
use Rattle.std.specs.Fmt.{decimal, digits}
use Rattle.mach_base.specs.declared.error.Error.{Error}
use Rattle.mach_base.specs.declared.error.Error.TheVariants as errors
use Rattle.mach_base.specs.Fault.{Fault, malformed, bad_magic, bad_offset, too_big, bad_input, too_short, no_memory}
use Rattle.goblin_mach_c.specs.declared.outside.Outside.{Outside}

abbrev pub code_of_fault : Fault → ℕ
code_of_fault malformed = 1
code_of_fault (bad_magic magic) = 2
code_of_fault (bad_offset place) = 3
code_of_fault (too_big size len) = 3
code_of_fault (bad_input size) = 3
code_of_fault (too_short count what) = 4
code_of_fault no_memory = 5

-- a call with this code was refused for a fault that is there, or because memory ran out
pub record IsRefusalCode (IsFault : Fault → Type 0) (code : ℕ) : Type 0 where
  pub fault : Fault
  pub is_code : code ≡ code_of_fault fault
  pub occurs : (fault ≡ no_memory) ⊎ IsFault fault

-- a text of 124 bytes: the first bytes of the words, 123 at most, and zeros
abbrev pub error_text : List ℕ → List ℕ
error_text words = take (min (length words) 123) words ++ replicate (124 - min (length words) 123) 0

-- The text is these words, or empty because they didn't fit.
abbrev pub HasErrorWords : List ℕ → List ℕ → Type 0
HasErrorWords words text = (text ≡ error_text words) ⊎ (text ≡ error_text [])

-- The error is a broken rule whose words fit into a text after `malformed: `.
abbrev pub HasShortRule : Error → Type 0
HasShortRule (errors.Malformed rule) = length rule.now ≤ 112
HasShortRule (errors.BadMagic magic) = ⊥
HasShortRule (errors.Scroll e) = ⊥
HasShortRule (errors.BufferTooShort count what) = ⊥
HasShortRule (errors.Memory e) = ⊥

-- an entry that ends after the end of the file, with both ends
abbrev pub cut_off_words : Outside → List ℕ
cut_off_words o =
    codes "entry "
    ++ (decimal o.index ++ (codes " is out of the file: it ends at 0x" ++ (digits 16 false o.end ++ (codes ", the file at 0x" ++ digits 16 false o.len))))

-- why an entry isn't in the file: it is cut off, or its record is
abbrev pub outside_entry_words : Outside → List ℕ
outside_entry_words o =
    if nat_lt o.len o.end then cut_off_words o else codes "the file ends in the record of entry " ++ decimal o.index
