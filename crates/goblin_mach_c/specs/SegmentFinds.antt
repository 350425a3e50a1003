-- The segment of a name, an address or a file offset, as C sees it (`mach-o/loader.h`).
use Rattle.std.specs.Prelude.{ℕ, min, Bool, List, Option, Some, None}
use Rattle.mach_base.specs.Text.{text_at}
use Rattle.mach_layout.specs.Entry.{is_among}
use Rattle.goblin_mach.specs.FileOffsets.{as_far_after}
use Rattle.goblin_mach.specs.NamedParts.{reads_as}
use Rattle.goblin_mach_c.specs.declared.segments.gm_segment.{gm_segment}

-- whether a segment has a name
abbrev pub row_has_name : List ℕ → gm_segment → Bool
row_has_name name row = reads_as name (text_at row.name 0)

-- how many of its bytes are in the file and in memory
abbrev pub mapped_size_of_row : gm_segment → ℕ
mapped_size_of_row row = min row.filesize row.vmsize

-- whether a segment holds a file offset, or an address, with a byte that is in the file
abbrev pub row_holds_offset : ℕ → gm_segment → Bool
row_holds_offset n row = is_among row.fileoff (mapped_size_of_row row) n

abbrev pub row_holds_address : ℕ → gm_segment → Bool
row_holds_address n row = is_among row.vmaddr (mapped_size_of_row row) n

-- the address of a file offset in a segment, and the file offset of an address, if it has 64 bits
abbrev pub address_by_row : ℕ → Option gm_segment → Option ℕ
address_by_row n None = None
address_by_row n (Some row) = as_far_after row.fileoff row.vmaddr n

abbrev pub offset_by_row : ℕ → Option gm_segment → Option ℕ
offset_by_row n None = None
offset_by_row n (Some row) = as_far_after row.vmaddr row.fileoff n
