-- Which entries are written as a fat file, and why others aren't.
use Rattle.std.specs.Prelude.{◌≡◌, ℕ, ◌^◌, Bool, true, ◌&&◌, List, [], ◌∷◌, length, Result, Ok, Err, codes, nat_le, nat_lt, if◌then◌else◌}
use Rattle.std.specs.List.{list_any}
use Rattle.mach_base.specs.declared.error.Error.{Error}
use Rattle.mach_base.specs.declared.error.Error.TheVariants as errors
use Rattle.mach_fat_writer.specs.Entries.{FatEntryView, are_of_one_cpu, any_two}
use Rattle.mach_fat_writer.specs.FatForms.{FatForm, table_end, fat_place_after, end_after, fat_bytes}

-- why entries are refused: an alignment is above 2^15; two entries are for one cpu; or an offset, a length or the count is more
-- than the file can hold
pub data FatRefusal : Type 0 where
  far_aligned : FatRefusal
  one_cpu_twice : FatRefusal
  too_far : FatRefusal

abbrev pub words_of_refusal : FatRefusal → List ℕ
words_of_refusal far_aligned = codes "an entry is aligned to more than 2^15"
words_of_refusal one_cpu_twice = codes "two entries are for one cpu"
words_of_refusal too_far = codes "an entry's place or length does not fit in its record"

abbrev pub is_far_aligned : FatEntryView → Bool
is_far_aligned e = nat_lt 15 e.align

-- whether a record can hold the offset and the length of an entry after the bytes that end at `from`, and its end is a number of 64 bits
abbrev pub can_lie : FatForm → ℕ → FatEntryView → Bool
can_lie form from e =
    (nat_le (fat_place_after from e) form.most && nat_le (length e.bytes) form.most) && nat_lt (end_after from e) (2 ^ 64)

-- the same for entries one after the other
abbrev pub all_can_lie : FatForm → ℕ → List FatEntryView → Bool
all_can_lie form from [] = true
all_can_lie form from (e ∷ es) = can_lie form from e && all_can_lie form (end_after from e) es

abbrev pub is_encodable : FatForm → List FatEntryView → Bool
is_encodable form es = nat_lt (length es) (2 ^ 32) && all_can_lie form (table_end form (length es)) es

-- the file of some entries, or the first of the three refusals that applies
abbrev pub fat_file_of : FatForm → List FatEntryView → Result (List ℕ) FatRefusal
fat_file_of form es =
    if list_any is_far_aligned es then Err far_aligned
    else (if any_two are_of_one_cpu es then Err one_cpu_twice
    else (if is_encodable form es then Ok (fat_bytes form es) else Err too_far))

-- an error says why there is no file, or that memory ran out
abbrev pub RefusesFat : Error → Result (List ℕ) FatRefusal → Type 0
RefusesFat (errors.Malformed msg) there = (why : FatRefusal) × (there ≡ Err why) × (msg.now ≡ words_of_refusal why)
RefusesFat (errors.BadMagic magic) there = ⊥
RefusesFat (errors.Scroll e) there = ⊥
RefusesFat (errors.BufferTooShort count what) there = ⊥
RefusesFat (errors.Memory e) there = Unit {0}
