-- Rules of segments (`mach-o/loader.h`, struct segment_command and segment_command_64; what dyld and the kernel map).
use Rattle.std.specs.Prelude.{◌==◌, ℕ, ◌+◌, ◌%◌, ◌^◌, ◌-◌, min, ◌&&◌, ◌||◌, not, nat_le, bit_and}
use Rattle.std.specs.Prelude.{Bool, true, false, List, [], ◌∷◌, ◌++◌, filter_map, slice_get, Option, Some, None, option_map}
use Rattle.std.specs.Prelude.{if◌then◌else◌}
use Rattle.std.specs.List.{before_first, find, list_any}
use Rattle.std.specs.Option.{option_to_list}
use Rattle.std.specs.Str.{bytes_eq}
use Rattle.mach_base.specs.Number.{place_after}
use Rattle.mach_base.specs.Text.{is_zero}
use Rattle.mach_base.specs.declared.context.Container.{Container}
use Rattle.mach_base.specs.declared.context.Container.TheVariants.{Little, Big}
use Rattle.mach_base.specs.Record.{number_among}
use Rattle.mach_load.specs.Command.{Command}
use Rattle.mach_load.specs.Commands.{Kind, encryption_info32, encryption_info64}
use Rattle.mach_layout.specs.Laid.{Laid, used_end, is_final, page_of, segments_of}
use Rattle.mach_layout.specs.Rules.{measured, sound, owner_at, reported, reported_over}
use Rattle.mach_layout.specs.declared.fault.LayoutFault.{LayoutFault}
use Rattle.mach_layout.specs.declared.fault.Owner.{Owner}
use Rattle.mach_layout.specs.declared.fault.Part.TheVariants as part
use Rattle.mach_layout.specs.declared.fault.Rule.{Rule}
use Rattle.mach_layout.specs.declared.fault.Rule.TheVariants as rule
use Rattle.mach_layout.specs.declared.placed_sections.PlacedSegment.{PlacedSegment}
use Rattle.mach_layout.specs.declared.rules.RuleOutcome.{RuleOutcome}
use Rattle.mach_layout.specs.declared.segments.EncryptedRange.{EncryptedRange}

-- the segment as the owner of a fault
abbrev pub segment_owner : PlacedSegment → Owner
segment_owner s = owner_at part.Segment s.place 0

-- `len` bytes or addresses from a start on hold `inner_len` others
abbrev pub range_holds : ℕ → ℕ → ℕ → ℕ → Bool
range_holds start len inner inner_len = nat_le start inner && nat_le (inner + inner_len) (start + len)

-- ---- rules of one segment

-- the number of addresses of an image of a width
abbrev pub address_count : Container → ℕ
address_count Little = 2 ^ 32
address_count Big = 2 ^ 64

-- what each rule of one segment sees
abbrev pub segment_sees : Laid → Rule → PlacedSegment → RuleOutcome
-- A segment ends at the last address or before it (dyld, the kernel).
segment_sees laid rule.SegmentBeyondAddresses s =
    let count = address_count laid.ctx.container in
    let c = s.command in
    measured (nat_le (c.vmaddr + c.vmsize) count) (place_after c.vmaddr c.vmsize) (min count (2 ^ 64 - 1))
-- A segment that has memory has at most as many bytes in the file (`mach-o/loader.h`, filesize and vmsize).
segment_sees laid rule.SegmentFileLarger s =
    measured (s.command.vmsize == 0 || nat_le s.command.filesize s.command.vmsize) s.command.filesize s.command.vmsize
-- What is mapped begins with a page (dyld, the kernel): in memory, if a segment has memory,
segment_sees laid rule.SegmentAddressUnaligned s =
    measured (not (is_final laid) || (s.command.vmsize == 0 || s.command.vmaddr % page_of laid == 0)) s.command.vmaddr (page_of laid)
-- and in the file, if it has bytes there.
segment_sees laid rule.SegmentPlaceUnaligned s =
    measured (not (is_final laid) || (s.command.filesize == 0 || s.command.fileoff % page_of laid == 0)) s.command.fileoff (page_of laid)
-- The initial protection allows no more than the maximum: of reading, writing and execution (`mach-o/loader.h`, initprot and maxprot).
segment_sees laid rule.SegmentRights s =
    let c = s.command in
    measured (not (is_final laid) || bit_and (bit_and c.initprot c.maxprot) 7 == bit_and c.initprot 7) c.initprot c.maxprot
segment_sees laid _ s = sound

-- the faults that some of these rules find in the segments
abbrev pub segments_reported : Laid → List Rule → List LayoutFault
segments_reported laid rules = reported_over rules (λ rule. segment_owner) (segment_sees laid) (segments_of laid)

-- ---- names

-- the name of a segment: its bytes up to the first 0
abbrev pub segment_name : PlacedSegment → List ℕ
segment_name s = before_first is_zero s.command.segname

-- the first of some segments with a name
abbrev pub named_among : List ℕ → List PlacedSegment → Option PlacedSegment
named_among name segments = find (λ t. bytes_eq (segment_name t) name) segments

-- each of some segments with those before it: first these, then those of the list
abbrev pub with_earlier : List PlacedSegment → List PlacedSegment → List (List PlacedSegment × PlacedSegment)
with_earlier earlier [] = []
with_earlier earlier (s ∷ ss) = (earlier, s) ∷ with_earlier (earlier ++ s ∷ []) ss

-- the fault of the segment of the command at a place that has the name of an earlier one
abbrev pub same_name : ℕ → ℕ → LayoutFault
same_name place earlier =
    record {
      rule = rule.SegmentNameAgain;
      owner = owner_at part.Segment place 0;
      other = Some (owner_at part.Segment earlier 0);
      found = 0;
      limit = 0;
    }

-- No earlier segment has the name (linkers write none that does).
abbrev pub segment_name_again : List PlacedSegment × PlacedSegment → Option LayoutFault
segment_name_again s = option_map (λ earlier. same_name s.1.place earlier.place) (named_among (segment_name s.1) s.0)

-- those faults of some segments, after some earlier ones
abbrev pub names_again : List PlacedSegment → List PlacedSegment → List LayoutFault
names_again earlier segments = filter_map segment_name_again (with_earlier earlier segments)

-- those faults of an image that is mapped
abbrev pub segment_names_again : Laid → List LayoutFault
segment_names_again laid = if is_final laid then names_again [] (segments_of laid) else []

-- ---- the segment of the header

abbrev pub holds_header : Laid → PlacedSegment → Bool
holds_header laid s = s.command.fileoff == 0 && nat_le (used_end laid) s.command.filesize

-- some segment begins at the first byte of the file and holds the header and the commands
abbrev pub has_segment_of_header : Laid → Bool
has_segment_of_header laid = list_any (holds_header laid) (segments_of laid)

-- ---- the encrypted range

abbrev pub is_encryption : Kind → Bool
is_encryption encryption_info32 = true
is_encryption encryption_info64 = true
is_encryption _ = false

-- the range that a command states to be encrypted (struct encryption_info_command and encryption_info_command_64)
abbrev pub encrypted_by : Command → Option EncryptedRange
encrypted_by c =
    if is_encryption c.kind then Some (record { place = c.offset; start = number_among c.values 2; len = number_among c.values 3 }) else None

abbrev pub holds_code : EncryptedRange → PlacedSegment → Bool
holds_code range s = not (bit_and s.command.initprot 4 == 0) && range_holds s.command.fileoff s.command.filesize range.start range.len

-- The encrypted range lies in one executable segment (the kernel).
abbrev pub encrypted_sees : Laid → EncryptedRange → RuleOutcome
encrypted_sees laid range =
    measured (not (is_final laid) || (range.len == 0 || list_any (holds_code range) (segments_of laid))) (place_after range.start range.len) 0

abbrev pub encrypted_not_executable : Laid → EncryptedRange → Option LayoutFault
encrypted_not_executable laid range = reported rule.EncryptedNotExecutable (owner_at part.Encrypted range.place 0) (encrypted_sees laid range)

-- the range of the first command that states one (a second one is a fault of its own)
abbrev pub first_encrypted : Laid → Option EncryptedRange
first_encrypted laid = slice_get (filter_map encrypted_by laid.commands) 0

abbrev pub encrypted_faults : Laid → List LayoutFault
encrypted_faults laid = filter_map (encrypted_not_executable laid) (option_to_list (first_encrypted laid))

-- ---- the faults of the segments

-- those of each segment by itself, of their names and of their protections
abbrev pub segment_faults : Laid → List LayoutFault
segment_faults laid =
    segments_reported laid (rule.SegmentBeyondAddresses ∷ rule.SegmentFileLarger ∷ rule.SegmentAddressUnaligned ∷ rule.SegmentPlaceUnaligned ∷ [])
    ++ segment_names_again laid
    ++ segments_reported laid (rule.SegmentRights ∷ [])
