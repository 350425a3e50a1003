-- The entries of a fat file of 32 or 64 bits as C sees them, in rows of one type.
use Rattle.std.specs.Prelude.{◌==◌, ◌&&◌, ◌||◌, ◌+◌, ◌-◌, ◌/◌, ◌^◌, ℕ, List, Bool, true, false, Option, Some, None, Result, Ok, Err}
use Rattle.std.specs.Prelude.{codes, length, min, nat_lt, if◌then◌else◌}
use Rattle.std.specs.List.{find}
use Rattle.mach_base.specs.Fault.{Fault}
use Rattle.mach_base.specs.Number.{number_at}
use Rattle.mach_base.specs.declared.context.Ctx.{Ctx}
use Rattle.mach_base.specs.declared.context.Endian.{Endian}
use Rattle.mach_base.specs.declared.context.Endian.TheVariants.{Big}
use Rattle.mach_base.specs.Items.{items_from}
use Rattle.mach_parts.specs.ArchForms.{arch_form_64, arch_in}
use Rattle.mach_parts.specs.Cpu.{kind_of_cpu}
use Rattle.mach_parts.specs.Magic.{magic_at}
use Rattle.mach_parts.specs.declared.fat64.FatArch64.{FatArch64}
use Rattle.goblin_mach.specs.FatFile.{arch_at}
use Rattle.goblin_mach_c.specs.Codes.{code_of_fault, outside_entry_words}
use Rattle.goblin_mach_c.specs.FatRows.{entry_code, fat_row, reported_count}
use Rattle.goblin_mach_c.specs.declared.fat.gm_fat_entry.{gm_fat_entry}
use Rattle.goblin_mach_c.specs.declared.fat64.gm_fat_entry64.{gm_fat_entry64}
use Rattle.goblin_mach_c.specs.declared.outside.Outside.{Outside}

-- an entry of 32 bits
abbrev pub wide_row : gm_fat_entry → gm_fat_entry64
wide_row e = record { offset = e.offset; size = e.size; cputype = e.cputype; cpusubtype = e.cpusubtype; align = e.align; code = e.code }

-- the record of an entry of 64 bits in a file of so many bytes, or why it isn't there
abbrev pub wide_row_64 : ℕ → Result FatArch64 Fault → gm_fat_entry64
wide_row_64 len (Ok a) =
    record {
      offset = a.offset;
      size = a.size;
      cputype = a.cputype;
      cpusubtype = a.cpusubtype;
      align = a.align;
      code = entry_code len a.offset a.size;
    }
wide_row_64 len (Err f) = record { offset = 0; size = 0; cputype = 0; cpusubtype = 0; align = 0; code = code_of_fault f }

abbrev pub number_or_zero : Result ℕ Fault → ℕ
number_or_zero (Ok n) = n
number_or_zero (Err f) = 0

-- the magic at the start of the bytes, or 0, which is no magic
abbrev pub magic_or_zero : List ℕ → ℕ
magic_or_zero bytes = number_or_zero (number_at Big 4 bytes 0)

-- how many entries of 64 bits some bytes have: none if they don't begin with the magic of such a file, or its header is short
abbrev pub fat_count_64 : List ℕ → ℕ
fat_count_64 bytes = if magic_or_zero bytes == 0xcafe_babf then number_or_zero (number_at Big 4 bytes 4) else 0

-- how many of them are reported: all of the header's count if they lie in the bytes; else those that lie whole in them, and one more
abbrev pub reported_count_64 : List ℕ → ℕ
reported_count_64 bytes =
    let whole = (length bytes - 8) / 32 in if nat_lt whole (fat_count_64 bytes) then whole + 1 else fat_count_64 bytes

-- whether the bytes begin as a fat file of 64 bits: bytes that do don't begin as one of 32
abbrev pub begins_fat_64 : List ℕ → Bool
begins_fat_64 bytes = magic_or_zero bytes == 0xcafe_babf

-- the entry at an index, of 64 bits or of 32, and how many are reported
abbrev pub wide_row_at : Bool → List ℕ → ℕ → gm_fat_entry64
wide_row_at true bytes k = wide_row_64 (length bytes) (arch_in arch_form_64 bytes k)
wide_row_at false bytes k = wide_row (fat_row (length bytes) (arch_at bytes k))

abbrev pub wide_count : Bool → List ℕ → ℕ
wide_count true bytes = reported_count_64 bytes
wide_count false bytes = reported_count bytes

-- the entries of some bytes, in order, up to the first record that isn't whole
abbrev pub wide_fat_rows : List ℕ → List gm_fat_entry64
wide_fat_rows bytes = items_from (wide_row_at (begins_fat_64 bytes) bytes) 0 (wide_count (begins_fat_64 bytes) bytes)

-- ---- the image for a cpu

-- the image that is a whole file, by the numbers of its cpu, if these can be read
abbrev pub thin_row : ℕ → Result ℕ Fault → Result ℕ Fault → Option gm_fat_entry64
thin_row len (Ok cputype) (Ok cpusubtype) =
    Some (record { offset = 0; size = len; cputype = cputype; cpusubtype = cpusubtype; align = 0; code = 0 })
thin_row len (Ok cputype) (Err f) = None
thin_row len (Err f) cpusubtype = None

-- the header of an image: its cpu is in the 8 bytes after the magic (`mach-o/loader.h`, struct mach_header)
abbrev pub thin_row_by : Endian → List ℕ → Option gm_fat_entry64
thin_row_by le bytes = thin_row (length bytes) (number_at le 4 bytes 4) (number_at le 4 bytes 8)

-- whether a row is for a cpu: capabilities aren't compared, and the greatest number stands for any kind (`mach/machine.h`, CPU_SUBTYPE_ANY)
abbrev pub is_for : ℕ → ℕ → gm_fat_entry64 → Bool
is_for cputype cpusubtype row =
    (row.cputype == cputype) && ((cpusubtype == 0xffff_ffff) || (kind_of_cpu row.cpusubtype == kind_of_cpu cpusubtype))

abbrev pub kept_for : ℕ → ℕ → Option gm_fat_entry64 → Option (ℕ × gm_fat_entry64)
kept_for cputype cpusubtype None = None
kept_for cputype cpusubtype (Some row) = if is_for cputype cpusubtype row then Some (0, row) else None

-- the entries of some bytes, each with its index
abbrev pub indexed_rows : List ℕ → List (ℕ × gm_fat_entry64)
indexed_rows bytes = items_from (λ k. (k, wide_row_at (begins_fat_64 bytes) bytes k)) 0 (wide_count (begins_fat_64 bytes) bytes)

-- the first image for a cpu, with its index: a file that begins as an image is one, and any other has entries
abbrev pub image_by : Result (ℕ × Option Ctx) Fault → ℕ → ℕ → List ℕ → Option (ℕ × gm_fat_entry64)
image_by (Ok (magic, Some ctx)) cputype cpusubtype bytes = kept_for cputype cpusubtype (thin_row_by ctx.le bytes)
image_by (Ok (magic, None)) cputype cpusubtype bytes = find (λ entry. is_for cputype cpusubtype entry.1) (indexed_rows bytes)
image_by (Err f) cputype cpusubtype bytes = None

abbrev pub image_for : ℕ → ℕ → List ℕ → Option (ℕ × gm_fat_entry64)
image_for cputype cpusubtype bytes = image_by (magic_at bytes 0) cputype cpusubtype bytes

-- the code of the call: that of the image's row, and 8 if there is none
abbrev pub image_code : Option (ℕ × gm_fat_entry64) → ℕ
image_code (Some (index, row)) = row.code
image_code None = 8

-- an entry that isn't in a file of so many bytes, with where it ends, or the greatest number of 64 bits if that is less
abbrev pub outside_row : ℕ → ℕ → gm_fat_entry64 → Outside
outside_row len index row = record { index = index; end = min (row.offset + row.size) (2 ^ 64 - 1); len = len }

-- why the call is refused
abbrev pub image_refusal_words : ℕ → Option (ℕ × gm_fat_entry64) → List ℕ
image_refusal_words len (Some (index, row)) = outside_entry_words (outside_row len index row)
image_refusal_words len None = codes "the file has no image for this cpu"
