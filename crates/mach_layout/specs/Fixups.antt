-- Rules of chained fixups (`mach-o/fixup-chains.h`, struct dyld_chained_fixups_header and those after it, as dyld tests
-- them). The chained fixups of an image are those of its last command. They are checked if their data lie in the file.
use Rattle.std.specs.Prelude.{◌==◌, ℕ, ◌+◌, ◌-◌, ◌*◌, ◌/◌, ◌%◌, ◌^◌, ◌&&◌, ◌||◌, not, Bool, List, [], ◌∷◌, ◌++◌, codes, nat_eq, length, take, drop}
use Rattle.std.specs.Prelude.{false, nat_lt, nat_le, filter_map, option_to_list, find, slice_get, Option, Some, None, Result, Ok, Err, if◌then◌else◌}
use Rattle.std.specs.List.{range_with_len, last_or, starts_with}
use Rattle.mach_base.specs.Fault.{Fault}
use Rattle.mach_base.specs.Number.{number_at}
use Rattle.mach_base.specs.Record.{Value, number_among, record_at}
use Rattle.mach_base.specs.declared.context.Endian.{Endian}
use Rattle.mach_load.specs.Command.{Command}
use Rattle.mach_load.specs.Commands.{Kind, dyld_chained_fixups}
use Rattle.mach_records.specs.FixupChains.{fixups_header_fields, header_of_values}
use Rattle.mach_records.specs.FixupChains.{starts_fields, starts_of_values}
use Rattle.mach_records.specs.declared.fixup_chains.ChainedFixupsHeader.{ChainedFixupsHeader}
use Rattle.mach_records.specs.declared.fixup_chains.ChainedStartsInSegment.{ChainedStartsInSegment}
use Rattle.mach_layout.specs.Laid.{Laid, file_size, segments_of, ends_past}
use Rattle.mach_layout.specs.Rules.{measured, sound, sees_there, then_outcome, owner_at, reported, reported_over}
use Rattle.mach_layout.specs.Symbols.{if_there, all_there, readable, texts_end, library_count}
use Rattle.mach_layout.specs.declared.fault.LayoutFault.{LayoutFault}
use Rattle.mach_layout.specs.declared.fault.Owner.{Owner}
use Rattle.mach_layout.specs.declared.fault.Part.TheVariants as part
use Rattle.mach_layout.specs.declared.fault.Rule.{Rule}
use Rattle.mach_layout.specs.declared.fault.Rule.TheVariants as rule
use Rattle.mach_layout.specs.declared.fixups.Front.{Front}
use Rattle.mach_layout.specs.declared.fixups.PlacedFixups.{PlacedFixups}
use Rattle.mach_layout.specs.declared.fixups.imports.ImportRow.{ImportRow}
use Rattle.mach_layout.specs.declared.placed_sections.PlacedSegment.{PlacedSegment}
use Rattle.mach_layout.specs.declared.rules.RuleOutcome.{RuleOutcome}

-- ---- the data

abbrev pub fixups_by : Kind → ℕ → List Value → Option PlacedFixups
fixups_by dyld_chained_fixups place values = Some (record { place = place; dataoff = number_among values 2; datasize = number_among values 3 })
fixups_by _ place values = None

-- the place and size of the chained fixups of a command, with the command's own place, if it is such a command
abbrev pub fixups_of : Command → Option PlacedFixups
fixups_of c = fixups_by c.kind c.offset c.values

-- what the checks of chained fixups use: the place of their command, their data, and the byte order
pub record Data : Type 0 where
  pub place : ℕ
  pub payload : List ℕ
  pub le : Endian

-- the data of a command, if they lie in the file
abbrev pub data_of : Laid → PlacedFixups → Option Data
data_of laid f =
    if ends_past (file_size laid) f.dataoff f.datasize then None
    else Some (record { place = f.place; payload = take f.datasize (drop f.dataoff laid.bytes); le = laid.ctx.le })

-- the data of the last command
abbrev pub fixup_data : Laid → Option Data
fixup_data laid = if_there (last_or None (filter_map fixups_of laid.commands)) (data_of laid)

-- the owner of a fault of the header, or of the starts of segment k
abbrev pub data_owner : Data → ℕ → Owner
data_owner x k = owner_at part.ChainedFixups x.place k

-- ---- the header

-- the number of bytes in an import's record, by the number of its format (DYLD_CHAINED_IMPORT, _ADDEND, _ADDEND64)
abbrev pub import_bytes : ℕ → ℕ
import_bytes format = if format == 1 then 4 else (if format == 2 then 8 else 16)

-- the place where the imports end
abbrev pub imports_end : ChainedFixupsHeader → ℕ
imports_end h = h.imports_offset + h.imports_count * import_bytes h.imports_format

-- the version is 0, the imports have one of three formats, and the names are plain or compressed
abbrev pub format_sees : ChainedFixupsHeader → RuleOutcome
format_sees h =
    then_outcome (then_outcome (measured (h.fixups_version == 0) h.fixups_version 0)
    (measured (not (h.imports_format == 0) && nat_le h.imports_format 3) h.imports_format 3)) (measured (nat_le h.symbols_format 1) h.symbols_format 1)

-- the imports end in the data; the names begin in the data, at or after the imports' end
abbrev pub places_sees : Data → ChainedFixupsHeader → RuleOutcome
places_sees x h =
    let size = length x.payload in
    then_outcome (then_outcome (measured (nat_le (imports_end h) size) (imports_end h) size) (measured (nat_le h.symbols_offset size) h.symbols_offset size))
    (measured (nat_le (imports_end h) h.symbols_offset) h.symbols_offset (imports_end h))

-- the header, or what is seen if its 28 bytes don't exist
abbrev pub header_or_outcome : Data → Result (List Value) Fault → Result ChainedFixupsHeader RuleOutcome
header_or_outcome x (Ok values) = Ok (header_of_values values)
header_or_outcome x (Err f) = Err (measured false (length x.payload) 28)

-- the header with the count of starts, if that many starts follow it, or what is seen if they don't
abbrev pub front_or_outcome : Data → ChainedFixupsHeader → Result ℕ Fault → Result Front RuleOutcome
front_or_outcome x h (Err f) = Err (measured false (h.starts_offset + 4) (length x.payload))
front_or_outcome x h (Ok count) =
    if nat_lt (length x.payload) (h.starts_offset + 4 + 4 * count) then Err (measured false (h.starts_offset + 4 + 4 * count) (length x.payload))
    else Ok (record { header = h; count = count })

abbrev pub front_by : Data → Result ChainedFixupsHeader RuleOutcome → Result Front RuleOutcome
front_by x (Err outcome) = Err outcome
front_by x (Ok h) =
    let outcome = then_outcome (format_sees h) (places_sees x h) in
    if outcome.holds then front_or_outcome x h (number_at x.le 4 x.payload h.starts_offset) else Err outcome

-- the header of the data, or what is seen at its first field that doesn't hold
abbrev pub front_of : Data → Result Front RuleOutcome
front_of x = front_by x (header_or_outcome x (record_at x.le fixups_header_fields x.payload 0))

-- ---- the starts of a segment's chains

-- the offset at which the last page begins
abbrev pub last_page : ChainedStartsInSegment → ℕ
last_page s = (s.page_count - 1) * s.page_size

-- a page has 0x1000 or 0x4000 bytes, the pointers have one of 13 formats, and the starts of the pages end in the data
abbrev pub page_sees : Data → ℕ → ChainedStartsInSegment → RuleOutcome
page_sees x place s =
    let end = place + 22 + 2 * s.page_count in
    then_outcome (then_outcome (measured (s.page_size == 0x1000 || s.page_size == 0x4000) s.page_size 0x4000)
    (measured (not (s.pointer_format == 0) && nat_le s.pointer_format 13) s.pointer_format 13))
    (measured (nat_le end (length x.payload)) end (length x.payload))

-- the segment begins at its offset from __TEXT, and the last page begins in it
abbrev pub extent_sees : ℕ → PlacedSegment → ChainedStartsInSegment → RuleOutcome
extent_sees text segment s =
    then_outcome (measured (s.segment_offset + text == segment.command.vmaddr) s.segment_offset (segment.command.vmaddr - text))
    (measured (s.page_count == 0 || nat_lt (last_page s) segment.command.vmsize) (last_page s) segment.command.vmsize)

-- the starts have their 22 bytes in the data, and the rest holds
abbrev pub record_sees : Data → ℕ → ℕ → PlacedSegment → Result (List Value) Fault → RuleOutcome
record_sees x text place segment (Err f) = measured false (place + 22) (length x.payload)
record_sees x text place segment (Ok values) =
    then_outcome (page_sees x place (starts_of_values values)) (extent_sees text segment (starts_of_values values))

-- the image has the segment
abbrev pub segment_starts_sees : Data → ℕ → ℕ → ℕ → Option PlacedSegment → RuleOutcome
segment_starts_sees x text starts info None = measured false info 0
segment_starts_sees x text starts info (Some segment) =
    record_sees x text (starts + info) segment (record_at x.le starts_fields x.payload (starts + info))

-- there are no starts of segment k (0), or all this holds of them
abbrev pub starts_sees : Data → Front → ℕ → ℕ → Option PlacedSegment → RuleOutcome
starts_sees x front text k segment =
    sees_there (readable (number_at x.le 4 x.payload (front.header.starts_offset + 4 + k * 4))) (λ info.
    if info == 0 then sound else segment_starts_sees x text front.header.starts_offset info segment)

abbrev pub starts_fault : Data → Front → ℕ → ℕ → Option PlacedSegment → Option LayoutFault
starts_fault x front text k segment = reported rule.ChainedFixups (data_owner x k) (starts_sees x front text k segment)

-- ---- the imports

-- An import: in formats 1 and 2 the lowest 8 bits are the library and the highest 23 of 32 the name; in format 3 the lowest
-- 16 bits and the highest 32 of 64.
abbrev pub import_row_of : ℕ → ℕ → ImportRow
import_row_of format n =
    if format == 3 then record { library = n % 2 ^ 16; name = n / 2 ^ 32 % 2 ^ 32 } else record { library = n % 2 ^ 8; name = n / 2 ^ 9 % 2 ^ 23 }

-- the number of bytes in that number
abbrev pub row_bytes : ℕ → ℕ
row_bytes format = if format == 3 then 8 else 4

abbrev pub row_by : ℕ → Result ℕ Fault → Option ImportRow
row_by format (Ok n) = Some (import_row_of format n)
row_by format (Err f) = None

-- import k
abbrev pub row_in : Data → ChainedFixupsHeader → ℕ → Option ImportRow
row_in x h k = row_by h.imports_format (number_at x.le (row_bytes h.imports_format) x.payload (h.imports_offset + k * import_bytes h.imports_format))

-- the highest 15 numbers mean those below 0, of which -1, -2 and -3 are special
abbrev pub is_ordinal_wrong : ℕ → ℕ → ℕ → Bool
is_ordinal_wrong libraries above n = if nat_lt (above - 16) n then nat_lt n (above - 3) else nat_lt libraries n

-- the number after the highest ordinal of a library
abbrev pub ordinals_end : ℕ → ℕ
ordinals_end format = if format == 3 then 2 ^ 16 else 2 ^ 8

-- the place where the names end: plain names end with the last zero byte
abbrev pub import_names_end : Data → ChainedFixupsHeader → ℕ
import_names_end x h = if h.symbols_format == 0 then texts_end x.payload else length x.payload

-- what each rule of one import sees, if the image has `libraries` and the names end at `upto`
abbrev pub import_sees : Data → ChainedFixupsHeader → (libraries upto : ℕ) → Rule → ImportRow → RuleOutcome
-- an import names a library of the image, the image itself (0), or a special ordinal
import_sees x h libraries upto rule.ImportLibrary row =
    measured (not (is_ordinal_wrong libraries (ordinals_end h.imports_format) row.library)) row.library libraries
-- an import's name begins before the names' end
import_sees x h libraries upto rule.ImportName row =
    let place = h.symbols_offset + row.name in measured (nat_lt place upto) place (length x.payload)
import_sees x h libraries upto _ row = sound

abbrev pub import_owner : Data → ℕ → Owner
import_owner x k = owner_at part.Imports x.place k

-- ---- all of them

-- whether the name is __TEXT, whatever follows its first zero byte
abbrev pub is_text : PlacedSegment → Bool
is_text s = starts_with nat_eq s.command.segname (codes "__TEXT" ++ 0 ∷ [])

abbrev pub address_or_zero : Option PlacedSegment → ℕ
address_or_zero None = 0
address_or_zero (Some s) = s.command.vmaddr

-- the address from which offsets of segments are counted: that of the first segment named __TEXT
abbrev pub text_address : Laid → ℕ
text_address laid = address_or_zero (find is_text (segments_of laid))

-- the faults of the starts, in order
abbrev pub starts_faults : Laid → Data → Front → List LayoutFault
starts_faults laid x front =
    filter_map (λ k. starts_fault x front (text_address laid) k (slice_get (segments_of laid) k)) (range_with_len 0 front.count)

-- those of imports
abbrev pub import_faults : Laid → Data → Front → List LayoutFault
import_faults laid x front =
    let h = front.header in
    reported_over (rule.ImportLibrary ∷ rule.ImportName ∷ []) (λ rule. import_owner x)
    (λ rule k. sees_there (row_in x h k) (import_sees x h (library_count laid) (import_names_end x h) rule)) (range_with_len 0 h.imports_count)

-- the faults after the header, or only that of the header
abbrev pub faults_after : Laid → Data → Result Front RuleOutcome → List LayoutFault
faults_after laid x (Err outcome) = option_to_list (reported rule.ChainedFixups (data_owner x 0) outcome)
faults_after laid x (Ok front) = starts_faults laid x front ++ import_faults laid x front

-- the faults of chained fixups
abbrev pub fixup_faults : Laid → List LayoutFault
fixup_faults laid = all_there (fixup_data laid) (λ x. faults_after laid x (front_of x))
