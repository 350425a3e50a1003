-- Segments of either width, and their data (`mach-o/loader.h`, struct segment_command and segment_command_64).
use Rattle.std.specs.Prelude.{◌==◌, ℕ, ◌+◌, ◌%◌, ◌^◌, List, [], length, replicate, Result, Ok, if◌then◌else◌}
use Rattle.std.specs.Result.{result_unwrap_or}
use Rattle.mach_base.specs.declared.context.Endian.{Endian}
use Rattle.mach_base.specs.declared.context.Container.{Container}
use Rattle.mach_base.specs.declared.context.Container.TheVariants.{Little, Big}
use Rattle.mach_base.specs.declared.context.Ctx.{Ctx}
use Rattle.mach_base.specs.Answer.{◌>>=◌}
use Rattle.mach_base.specs.Fault.{Fault}
use Rattle.mach_base.specs.Number.{slice_at}
use Rattle.mach_base.specs.Record.{spelling}
use Rattle.mach_records.specs.declared.segments.SegmentCommand32.{SegmentCommand32}
use Rattle.mach_records.specs.declared.segments.SegmentCommand64.{SegmentCommand64}
use Rattle.mach_records.specs.Segments.{segment_command32_fields, segment_command32_values, segment_command64_fields, segment_command64_values}
use Rattle.mach_parts.specs.Section.{command_size, sections_at}
use Rattle.mach_parts.specs.declared.segment.Segment.{Segment}
use Rattle.mach_parts.specs.declared.segment.section.Section.{Section}

-- the number of the command (LC_SEGMENT, LC_SEGMENT_64)
abbrev pub command_number : Container → ℕ
command_number Little = 0x1
command_number Big = 0x19

-- the command of a 32-bit image in the 64-bit form
abbrev pub widened : SegmentCommand32 → SegmentCommand64
widened c =
    record {
      cmd = c.cmd;
      cmdsize = c.cmdsize;
      segname = c.segname;
      vmaddr = c.vmaddr;
      vmsize = c.vmsize;
      fileoff = c.fileoff;
      filesize = c.filesize;
      maxprot = c.maxprot;
      initprot = c.initprot;
      nsects = c.nsects;
      flags = c.flags;
    }

-- a command in the 32-bit form: addresses, places and sizes keep their low 32 bits
abbrev pub narrowed : SegmentCommand64 → SegmentCommand32
narrowed c =
    record {
      cmd = c.cmd;
      cmdsize = c.cmdsize;
      segname = c.segname;
      vmaddr = c.vmaddr % 2 ^ 32;
      vmsize = c.vmsize % 2 ^ 32;
      fileoff = c.fileoff % 2 ^ 32;
      filesize = c.filesize % 2 ^ 32;
      maxprot = c.maxprot;
      initprot = c.initprot;
      nsects = c.nsects;
      flags = c.flags;
    }

-- the bytes of a command in a width
abbrev pub command_bytes : Container → Endian → SegmentCommand64 → List ℕ
command_bytes Little le c = spelling le segment_command32_fields (segment_command32_values (narrowed c))
command_bytes Big le c = spelling le segment_command64_fields (segment_command64_values c)

-- What contracts see of a segment: the fields of its command in the 64-bit form, its data, and what
-- its sections are read from. These follow the command at `offset` of `file`, in the context `ctx`.
pub record SegmentView : Type 0 where
  pub command : SegmentCommand64
  pub bytes : List ℕ
  pub file : List ℕ
  pub offset : ℕ
  pub ctx : Ctx

-- the fields of a segment
abbrev pub segment_command_of : Segment → SegmentCommand64
segment_command_of s =
    record {
      cmd = s.cmd;
      cmdsize = s.cmdsize;
      segname = s.segname;
      vmaddr = s.vmaddr;
      vmsize = s.vmsize;
      fileoff = s.fileoff;
      filesize = s.filesize;
      maxprot = s.maxprot;
      initprot = s.initprot;
      nsects = s.nsects;
      flags = s.flags;
    }

abbrev pub segment_view : Segment → SegmentView
segment_view s =
    record {
      command = segment_command_of s;
      bytes = s.bytes.now;
      file = s.file.now;
      offset = s.offset;
      ctx = s.ctx;
    }

-- the data of a segment: n bytes at a place, or none if n is 0, whatever the place is
abbrev pub segment_data : List ℕ → ℕ → ℕ → Result (List ℕ) Fault
segment_data bytes place n = if n == 0 then Ok [] else slice_at n bytes place

-- the segment of the command at an offset, with this data
abbrev pub with_data : Ctx → List ℕ → ℕ → SegmentCommand64 → List ℕ → SegmentView
with_data ctx file offset c bytes =
    record { command = c; bytes = bytes; file = file; offset = offset; ctx = ctx }

-- the segment of the command at an offset, or the reason why its data does not lie in the bytes
abbrev pub segment_at : Ctx → List ℕ → ℕ → SegmentCommand64 → Result SegmentView Fault
segment_at ctx bytes offset c =
    segment_data bytes c.fileoff c.filesize >>= (λ found. Ok (with_data ctx bytes offset c found))

-- the same in lossy mode: data that does not lie in the bytes is empty
abbrev pub lossy_segment_at : Ctx → List ℕ → ℕ → SegmentCommand64 → Result SegmentView Fault
lossy_segment_at ctx bytes offset c =
    Ok (with_data ctx bytes offset c (result_unwrap_or (segment_data bytes c.fileoff c.filesize) []))

-- a new command before sections of `len` bytes: its number and its size, and 0 in every other field
abbrev pub new_command : Container → ℕ → SegmentCommand64
new_command container len =
    record {
      cmd = command_number container;
      cmdsize = command_size container + len;
      segname = replicate 16 0;
      vmaddr = 0;
      vmsize = 0;
      fileoff = 0;
      filesize = 0;
      maxprot = 0;
      initprot = 0;
      nsects = 0;
      flags = 0;
    }

-- a new segment: its data is its sections, as they will be written, and it has no sections to read
abbrev pub new_segment : Ctx → List ℕ → SegmentView
new_segment ctx sections = with_data ctx [] 0 (new_command ctx.container (length sections)) sections

-- the sections of a segment with their data, each as a section or as the reason why there is none
abbrev pub sections_of : SegmentView → List (Result (Section × List ℕ) Fault)
sections_of s = sections_at s.ctx s.file s.offset s.command.nsects
