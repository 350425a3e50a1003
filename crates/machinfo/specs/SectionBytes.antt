-- The bytes of a section of an image (`mach-o/loader.h`, struct section_64), as rows of 16.
use Rattle.std.specs.Prelude.{◌&&◌, ◌++◌, ◌∷◌, ℕ, ◌+◌, ◌-◌, ◌*◌, ◌%◌, ◌^◌, Bool, List, [], Option, Some, None, Result, Ok, Err, codes, drop, find}
use Rattle.std.specs.Prelude.{bytes_eq, length, nat_lt, option_and_then, option_map, replicate, take, if◌then◌else◌}
use Rattle.std.specs.Int.{div_ceil}
use Rattle.mach_base.specs.declared.error.Error.{Error}
use Rattle.mach_base.specs.Answer.{◌>>=◌}
use Rattle.mach_base.specs.Fault.{Fault, malformed}
use Rattle.mach_base.specs.Items.{items_from, read_as}
use Rattle.mach_parts.specs.SectionRecord.{bytes_of_section, readable_sections}
use Rattle.mach_parts.specs.declared.segment.numbered.NumberedSection.{NumberedSection}
use Rattle.goblin_mach.specs.FixupsLeft.{reported_first}
use Rattle.goblin_mach.specs.ImageFacts.{Facts}
use Rattle.mach_cli.specs.Fields.{FieldView, field_of, held_bytes, held_digits, hex, line_field, wide_field}
use Rattle.machinfo.specs.declared.section_bytes.ByteRow.{ByteRow}
use Rattle.machinfo.specs.declared.section_bytes.ByteRows.{ByteRows}
use Rattle.machinfo.specs.declared.section_bytes.SectionName.{SectionName}

-- a name padded with zeros, if it has 16 bytes at most
abbrev pub name_of_16 : List ℕ → Option (List ℕ)
name_of_16 name = if nat_lt 16 (length name) then None else Some (name ++ replicate (16 - length name) 0)

-- the names of a section, if both fit
abbrev pub section_name_of : (segment section : List ℕ) → Option SectionName
section_name_of segment section =
    option_and_then (λ s. option_map (λ n. record { segment = s; section = n }) (name_of_16 section)) (name_of_16 segment)

-- whether a section has these names of its own
abbrev pub has_both_names : SectionName → NumberedSection → Bool
has_both_names name n = bytes_eq n.section.segname name.segment && bytes_eq n.section.sectname name.section

-- the first section with these names
abbrev pub section_so_named : SectionName → Facts → Option NumberedSection
section_so_named name f = find (has_both_names name) (readable_sections f.segments)

-- its address and its bytes, or why there are none
abbrev pub bytes_by_section : List ℕ → Option NumberedSection → Result (ℕ × List ℕ) Fault
bytes_by_section bytes None = Err malformed
bytes_by_section bytes (Some n) = bytes_of_section bytes n.section >>= (λ held. Ok (n.section.addr, held))

abbrev pub bytes_held : SectionName → Facts → Result (ℕ × List ℕ) Fault
bytes_held name f = bytes_by_section f.bytes (section_so_named name f)

-- row k: 16 bytes, the last perhaps fewer, and the address of the first
abbrev pub byte_row : (address : ℕ) → (held : List ℕ) → (k : ℕ) → Result (ℕ × List ℕ) Fault
byte_row address held k = Ok ((address + k * 16) % 2 ^ 64, take 16 (drop (k * 16) held))

abbrev pub byte_rows_from : (address : ℕ) → (held : List ℕ) → (k : ℕ) → List (Result (ℕ × List ℕ) Fault)
byte_rows_from address held k = items_from (byte_row address held) k (div_ceil (length held) 16 - k)

-- all rows, or why there are none
abbrev pub listed_bytes : Result (ℕ × List ℕ) Fault → List (Result (ℕ × List ℕ) Fault)
listed_bytes (Ok found) = byte_rows_from found.0 found.1 0
listed_bytes (Err f) = Err f ∷ []

-- the address, the bytes, and these as a text, which an object lacks
abbrev pub byte_row_fields : ℕ × List ℕ → List FieldView
byte_row_fields row =
    wide_field 11 (field_of (codes "address") (hex row.0) 1)
    ∷ wide_field 32 (field_of (codes "hex") (held_digits row.1) 2)
    ∷ line_field (held_bytes row.1) 3
    ∷ []

-- ---- what the code's values mean

abbrev pub byte_row_view : ByteRow → ℕ × List ℕ
byte_row_view r = (r.address, r.bytes.now)

abbrev pub byte_row_read : Result ByteRow Error → Result (ℕ × List ℕ) Fault
byte_row_read item = read_as byte_row_view item

abbrev pub byte_rows_left : ByteRows → List (Result (ℕ × List ℕ) Fault)
byte_rows_left it = reported_first it.refusal ++ byte_rows_from it.address it.held.now it.index
