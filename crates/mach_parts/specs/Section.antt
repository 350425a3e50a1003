-- Sections of either width, and their data (`mach-o/loader.h`, struct section and section_64).
use Rattle.std.specs.Prelude.{◌==◌, ℕ, ◌+◌, ◌-◌, ◌*◌, ◌/◌, ◌%◌, ◌^◌, min, bit_and, Bool, ◌||◌, List, [], replicate, Result, Ok, if◌then◌else◌}
use Rattle.std.specs.Result.{result_unwrap_or}
use Rattle.mach_base.specs.declared.context.Endian.{Endian}
use Rattle.mach_base.specs.declared.context.Container.{Container}
use Rattle.mach_base.specs.declared.context.Container.TheVariants.{Little, Big}
use Rattle.mach_base.specs.declared.context.Ctx.{Ctx}
use Rattle.mach_base.specs.Answer.{◌>>=◌}
use Rattle.mach_base.specs.Fault.{Fault}
use Rattle.mach_base.specs.Front.{Found, with_width}
use Rattle.mach_base.specs.Number.{room_at, slice_at, place_after}
use Rattle.mach_base.specs.Record.{spelling, record_at}
use Rattle.mach_records.specs.declared.segments.Section32.{Section32}
use Rattle.mach_records.specs.declared.segments.Section64.{Section64}
use Rattle.mach_records.specs.Segments.{section32_fields, section32_values, section32_of_values, section64_fields, section64_values, section64_of_values}
use Rattle.mach_base.specs.Items.{items_from}
use Rattle.mach_parts.specs.declared.segment.section.Section.{Section}

-- the size of a section's record in bytes
abbrev pub section_size : Container → ℕ
section_size Little = 68
section_size Big = 80

-- the section of a record
abbrev pub section_of_32 : Section32 → Section
section_of_32 r =
    record {
      sectname = r.sectname;
      segname = r.segname;
      addr = r.addr;
      size = r.size;
      offset = r.offset;
      align = r.align;
      reloff = r.reloff;
      nreloc = r.nreloc;
      flags = r.flags;
    }

abbrev pub section_of_64 : Section64 → Section
section_of_64 r =
    record {
      sectname = r.sectname;
      segname = r.segname;
      addr = r.addr;
      size = r.size;
      offset = r.offset;
      align = r.align;
      reloff = r.reloff;
      nreloc = r.nreloc;
      flags = r.flags;
    }

-- the record of a section: the reserved fields are 0, and in the 32-bit record address and size keep their low 32 bits
abbrev pub section32_of : Section → Section32
section32_of s =
    record {
      sectname = s.sectname;
      segname = s.segname;
      addr = s.addr % 2 ^ 32;
      size = s.size % 2 ^ 32;
      offset = s.offset;
      align = s.align;
      reloff = s.reloff;
      nreloc = s.nreloc;
      flags = s.flags;
      reserved1 = 0;
      reserved2 = 0;
    }

abbrev pub section64_of : Section → Section64
section64_of s =
    record {
      sectname = s.sectname;
      segname = s.segname;
      addr = s.addr;
      size = s.size;
      offset = s.offset;
      align = s.align;
      reloff = s.reloff;
      nreloc = s.nreloc;
      flags = s.flags;
      reserved1 = 0;
      reserved2 = 0;
      reserved3 = 0;
    }

-- the section that is read back after it was written in a width
abbrev pub kept : Container → Section → Section
kept Little s = record s { addr = s.addr % 2 ^ 32; size = s.size % 2 ^ 32 }
kept Big s = s

-- a section without names, whose numbers are all 0
abbrev pub blank_section : Section
blank_section =
    record {
      sectname = replicate 16 0;
      segname = replicate 16 0;
      addr = 0;
      size = 0;
      offset = 0;
      align = 0;
      reloff = 0;
      nreloc = 0;
      flags = 0;
    }

-- the bytes of a section's record in a width
abbrev pub section_bytes : Container → Endian → Section → List ℕ
section_bytes Little le s = spelling le section32_fields (section32_values (section32_of s))
section_bytes Big le s = spelling le section64_fields (section64_values (section64_of s))

-- the section at a place, or the reason why there is none
abbrev pub section_at : Container → Endian → List ℕ → ℕ → Result Section Fault
section_at Little le bytes s =
    record_at le section32_fields bytes s >>= (λ vs. Ok (section_of_32 (section32_of_values vs)))
section_at Big le bytes s =
    record_at le section64_fields bytes s >>= (λ vs. Ok (section_of_64 (section64_of_values vs)))

-- the section that is read back after it was written at the start of the bytes, or the reason why it cannot be written there
abbrev pub read_back : Ctx → Section → List ℕ → Result Section Fault
read_back ctx s bytes = room_at (section_size ctx.container) bytes 0 >>= (λ _. Ok (kept ctx.container s))

-- the section at the start of the bytes and its width, or the reason why there is none
abbrev pub section_front : Ctx → List ℕ → Found Section
section_front ctx bytes = with_width (section_size ctx.container) (section_at ctx.container ctx.le bytes 0)

-- whether the type in a section's flags is one of zeros that take no
-- bytes of the file: S_ZEROFILL, S_GB_ZEROFILL or S_THREAD_LOCAL_ZEROFILL
abbrev pub is_zero_fill : ℕ → Bool
is_zero_fill flags = let kind = bit_and flags 0xff in kind == 0x1 || kind == 0xc || kind == 0x12

-- the data of a section: `size` bytes at `offset` of the file; empty if they do not lie in the file or if the section is of zeros
abbrev pub section_data : List ℕ → Section → List ℕ
section_data file s = if is_zero_fill s.flags then [] else result_unwrap_or (slice_at s.size file s.offset) []

-- the size of a segment's command in bytes, without its sections
abbrev pub command_size : Container → ℕ
command_size Little = 56
command_size Big = 72

-- How many of `nsects` sections have their record in their segment's command of `cmdsize` bytes. So no two commands of an image
-- share a record, and an image has at most as many of these sections as its bytes have records.
abbrev pub own_sections : Container → (cmdsize : ℕ) → (nsects : ℕ) → ℕ
own_sections container cmdsize nsects = min nsects ((cmdsize - command_size container) / section_size container)

-- the place of section k of the command at an offset
abbrev pub section_place : Container → ℕ → ℕ → ℕ
section_place container offset k = place_after offset (command_size container + k * section_size container)

-- the section at a place with its data, or the reason why there is none
abbrev pub section_with_data : Ctx → List ℕ → ℕ → Result (Section × List ℕ) Fault
section_with_data ctx file place =
    section_at ctx.container ctx.le file place >>= (λ s. Ok (s, section_data file s))

-- section k of the command at an offset, with its data
abbrev pub section_item : Ctx → List ℕ → ℕ → ℕ → Result (Section × List ℕ) Fault
section_item ctx file offset k = section_with_data ctx file (section_place ctx.container offset k)

-- `count` sections of the command at an offset
abbrev pub sections_at : Ctx → List ℕ → ℕ → ℕ → List (Result (Section × List ℕ) Fault)
sections_at ctx file offset count = items_from (section_item ctx file offset) 0 count
