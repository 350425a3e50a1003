-- The addresses of file offsets, by the segments of an image (`mach-o/loader.h`, vmaddr, vmsize, fileoff and filesize). Offsets
-- count from the image's first byte. The first min(filesize, vmsize) bytes of a segment are in the file and in memory.
use Rattle.std.specs.Prelude.{◌≡◌, ℕ, ◌+◌, ◌-◌, ◌^◌, min, Bool, true, List, find, slice_get, Option, Some, None, nat_lt, if◌then◌else◌}
use Rattle.mach_layout.specs.Entry.{is_among}
use Rattle.mach_parts.specs.Segment.{SegmentView}

-- how many bytes of a segment are in the file and in memory
abbrev pub mapped_size : SegmentView → ℕ
mapped_size s = min s.command.filesize s.command.vmsize

-- the number that lies as far after `to` as n lies after `from`, if it has 64 bits
abbrev pub as_far_after : (from to n : ℕ) → Option ℕ
as_far_after from to n = let there = to + (n - from) in if nat_lt there (2 ^ 64) then Some there else None

abbrev pub address_by : ℕ → Option SegmentView → Option ℕ
address_by offset None = None
address_by offset (Some s) = as_far_after s.command.fileoff s.command.vmaddr offset

-- the address of a file offset: by the first segment that holds it
abbrev pub address_at_offset : List SegmentView → ℕ → Option ℕ
address_at_offset ss offset = address_by offset (find (λ s. is_among s.command.fileoff (mapped_size s) offset) ss)

abbrev pub offset_by : ℕ → Option SegmentView → Option ℕ
offset_by address None = None
offset_by address (Some s) = as_far_after s.command.vmaddr s.command.fileoff address

-- the file offset of an address: by the first segment that holds it
abbrev pub offset_at_address : List SegmentView → ℕ → Option ℕ
offset_at_address ss address = offset_by address (find (λ s. is_among s.command.vmaddr (mapped_size s) address) ss)

-- ---- when they lead back

-- whether a byte at an offset, or at an address, is one of a segment's in the file and in memory
abbrev pub maps_offset : ℕ → SegmentView → Bool
maps_offset offset s = is_among s.command.fileoff (mapped_size s) offset

abbrev pub maps_address : ℕ → SegmentView → Bool
maps_address address s = is_among s.command.vmaddr (mapped_size s) address

-- at most one of them passes a test
abbrev pub AtMostOne : {X : Type 0} → (X → Bool) → List X → Type 0
AtMostOne {X} test xs = (i j : ℕ) (x y : X) → slice_get xs i ≡ Some x → slice_get xs j ≡ Some y → test x ≡ true → test y ≡ true → i ≡ j
