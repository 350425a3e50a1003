-- The pointers of chains as they are stored, before dyld fixes them up (`mach-o/fixup-chains.h`).
use Rattle.std.specs.Prelude.{◌==◌, ℕ, ◌+◌, List, length, drop, map, Option, Some, None, option_map, Result, Ok, nat_le, slice_get, if◌then◌else◌}
use Rattle.mach_base.specs.Fault.{Fault}
use Rattle.mach_base.specs.Number.{number}
use Rattle.mach_base.specs.declared.context.Endian.{Endian}
use Rattle.mach_chained.specs.Fixups.{Fixup}
use Rattle.mach_chained.specs.Header.{Fixups}
use Rattle.mach_chained.specs.Starts.{starts_at}
use Rattle.mach_records.specs.declared.fixup_chains.ChainedStartsInSegment.{ChainedStartsInSegment}
use Rattle.mach_parts.specs.Segment.{SegmentView, segment_view}
use Rattle.machfixups.specs.declared.stored_pointers.StoredPointers as declared

-- what they are read from: the segments of an image with their data, and its byte order
pub record PointerSource : Type 0 where
  pub segments : List SegmentView
  pub le : Endian

-- how many bytes a pointer has in a format: 4 in `DYLD_CHAINED_PTR_32`, 8 in the others
abbrev pub stored_width : (format : ℕ) → ℕ
stored_width format = if format == 3 then 4 else 8

-- the number of so many bytes at a place, if they lie there
abbrev pub number_there : Endian → (width : ℕ) → List ℕ → (place : ℕ) → Option ℕ
number_there le width bytes place = if nat_le (place + width) (length bytes) then Some (number le width (drop place bytes)) else None

-- the pointer at an offset of a segment, by the starts of its chains
abbrev pub stored_in : Endian → Result (Option (ChainedStartsInSegment × ℕ)) Fault → Option SegmentView → (offset : ℕ) → Option ℕ
stored_in le (Ok (Some starts)) (Some segment) offset = number_there le (stored_width starts.0.pointer_format) segment.bytes offset
stored_in le _ _ offset = None

-- the pointer that is stored at the place of a fixup: its number, in the byte order of the image
abbrev pub stored_pointer : PointerSource → Fixups → Fixup → Option ℕ
stored_pointer source table f = stored_in source.le (starts_at table f.segment) (slice_get source.segments f.segment) f.offset

-- the same, if there are a source and chains
abbrev pub raw_of : Option PointerSource → Option Fixups → Fixup → Option ℕ
raw_of (Some source) (Some table) f = stored_pointer source table f
raw_of _ _ f = None

abbrev pub source_view : declared.StoredPointers → PointerSource
source_view s = record { segments = map segment_view s.segments.now; le = s.le }

abbrev pub source_option_view : Option declared.StoredPointers → Option PointerSource
source_option_view source = option_map source_view source
