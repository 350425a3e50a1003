-- What the rules read of an image (`mach-o/loader.h`): its bytes, its header and its commands, and what follows from them.
use Rattle.std.specs.Prelude.{◌==◌, ℕ, ◌+◌, ◌-◌, ◌&&◌, ◌||◌, not, Bool, List, [], length, map}
use Rattle.std.specs.Prelude.{min, nat_lt, option_map, filter_map, flat_map, Option, Some, None, Result, Ok}
use Rattle.std.specs.Prelude.{if◌then◌else◌}
use Rattle.std.specs.List.{last_or}
use Rattle.mach_base.specs.Answer.{◌>>=◌}
use Rattle.mach_base.specs.Fault.{Fault}
use Rattle.mach_base.specs.declared.context.Container.{Container}
use Rattle.mach_base.specs.declared.context.Ctx.{Ctx}
use Rattle.mach_load.specs.Command.{Command, cmdsize_of}
use Rattle.mach_load.specs.Newer.{Newer, newer_at}
use Rattle.mach_load.specs.Subjects.{segment_command_by}
use Rattle.mach_load.specs.Variants.{command_of}
use Rattle.mach_parts.specs.Header.{header_size, header_in}
use Rattle.mach_base.specs.Items.{items_from}
use Rattle.mach_parts.specs.Section.{own_sections, section_place}
use Rattle.mach_parts.specs.SectionRecord.{in_front, section_record_at}
use Rattle.mach_parts.specs.Segment.{widened}
use Rattle.mach_parts.specs.declared.header.Header.{Header}
use Rattle.mach_layout.specs.declared.layout.Layout.{Layout}
use Rattle.mach_layout.specs.declared.placed_sections.PlacedSection.{PlacedSection}
use Rattle.mach_layout.specs.declared.placed_sections.PlacedSegment.{PlacedSegment}

-- the bytes of an image that begins at the first of them, how they are read, and the header and the commands there
pub record Laid : Type 0 where
  pub bytes : List ℕ
  pub ctx : Ctx
  pub header : Header
  pub commands : List Command

-- the same from the bytes, if an image with this context and these commands opens at the first of them
abbrev pub laid_in : List ℕ → Ctx → List Command → Laid
laid_in bytes ctx cs = record { bytes = bytes; ctx = ctx; header = header_in ctx.container ctx.le bytes 0; commands = cs }

-- the same as the code holds it
abbrev pub laid_of : Layout → Laid
laid_of l = record { bytes = l.bytes.now; ctx = l.ctx; header = l.header; commands = map command_of l.commands.now }

-- what a command is that goblin's table lacks
abbrev pub newer_of : Laid → Command → Option Newer
newer_of laid c = newer_at laid.ctx.le laid.bytes c

-- ---- the header and the commands

-- the number of bytes in the file
abbrev pub file_size : Laid → ℕ
file_size laid = length laid.bytes

-- the number of bytes in the header
abbrev pub header_len : Laid → ℕ
header_len laid = header_size laid.ctx.container

-- the place where the commands end, by the header
abbrev pub declared_end : Laid → ℕ
declared_end laid = header_len laid + laid.header.sizeofcmds

-- the place where a command ends
abbrev pub command_end : Command → ℕ
command_end c = c.offset + cmdsize_of c

abbrev pub end_or : ℕ → Option Command → ℕ
end_or default None = default
end_or default (Some c) = command_end c

-- the place where the last command ends, or the header if there is none
abbrev pub commands_end : Laid → ℕ
commands_end laid = end_or (header_len laid) (last_or None laid.commands)

-- the place where the header and the commands end: at most where the header states
abbrev pub used_end : Laid → ℕ
used_end laid = min (commands_end laid) (declared_end laid)

-- ---- kinds of files (`mach-o/loader.h`, MH_EXECUTE and so on)

-- the kinds that dyld or the kernel maps: executables, libraries, dynamic linkers and bundles
abbrev pub is_final : Laid → Bool
is_final laid = let kind = laid.header.filetype in kind == 2 || (kind == 6 || (kind == 7 || kind == 8))

abbrev pub is_object : Laid → Bool
is_object laid = laid.header.filetype == 1

abbrev pub is_stub : Laid → Bool
is_stub laid = laid.header.filetype == 9

abbrev pub is_dsym : Laid → Bool
is_dsym laid = laid.header.filetype == 10

-- the kinds for which rules are defined
abbrev pub is_judged : Laid → Bool
is_judged laid = is_final laid || (is_object laid || (is_stub laid || is_dsym laid))

-- the number of bytes in a page: 16384 for arm64 (also with pointers of 32 bits)
abbrev pub page_of : Laid → ℕ
page_of laid = if laid.header.cputype == 0x100_000c || laid.header.cputype == 0x200_000c then 16384 else 4096

-- ---- segments

-- the segment of a command, with the place of the command
abbrev pub placed_segment_of : Command → Option PlacedSegment
placed_segment_of c = option_map (λ s. record { place = c.offset; command = s }) (segment_command_by widened c.kind c.values)

-- the segments of the commands, in order
abbrev pub segments_of : Laid → List PlacedSegment
segments_of laid = filter_map placed_segment_of laid.commands

-- ---- sections

-- section k of a segment, with its number from 1
abbrev pub placed_section_at : Ctx → List ℕ → PlacedSegment → ℕ → Result PlacedSection Fault
placed_section_at ctx bytes s k =
    section_record_at ctx.container ctx.le bytes (section_place ctx.container s.place k)
    >>= (λ found. Ok (record { segment = s; number = k + 1; section = found }))

-- How many of the sections that a segment states have their record in its own command. (A `cmdsize` that doesn't match `nsects`
-- is a fault: CommandCount.)
abbrev pub sections_in_command : Container → PlacedSegment → ℕ
sections_in_command container s = own_sections container s.command.cmdsize s.command.nsects

-- the sections of a segment from number k on: those of its command that lie in the bytes
abbrev pub sections_from : Ctx → List ℕ → PlacedSegment → ℕ → List PlacedSection
sections_from ctx bytes s k = in_front (items_from (placed_section_at ctx bytes s) k (sections_in_command ctx.container s - k))

-- those of a segment, if there is one
abbrev pub open_sections : Ctx → List ℕ → Option PlacedSegment → ℕ → List PlacedSection
open_sections ctx bytes None k = []
open_sections ctx bytes (Some s) k = sections_from ctx bytes s k

-- the sections of a command, if it is a segment command
abbrev pub sections_by : Ctx → List ℕ → Command → List PlacedSection
sections_by ctx bytes c = open_sections ctx bytes (placed_segment_of c) 0

-- the sections of an image, in order
abbrev pub placed_sections_of : Laid → List PlacedSection
placed_sections_of laid = flat_map (sections_by laid.ctx laid.bytes) laid.commands

-- ---- what is mapped

-- Nothing of a segment with vmsize 0 is mapped (`mach-o/loader.h`: vmsize is the memory size of the segment), so the
-- addresses of its sections are not in memory. Go's linker writes its `__DWARF` in this way (cmd/link, macho.go and
-- macho_combine_dwarf.go). That of a dSYM has a vmsize.
abbrev pub is_mapped : PlacedSegment → Bool
is_mapped s = not (s.command.vmsize == 0)

-- the section has addresses: it has a size, and something of its segment is mapped
abbrev pub has_addresses : PlacedSection → Bool
has_addresses s = is_mapped s.segment && not (s.section.size == 0)

-- ---- ranges

-- `len` bytes from a start on end past a limit
abbrev pub ends_past : ℕ → ℕ → ℕ → Bool
ends_past limit start len = nat_lt limit (start + len)
