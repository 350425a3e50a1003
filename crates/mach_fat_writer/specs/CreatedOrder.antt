-- The order of entries in a fat file that is created of files.
use Rattle.std.specs.Prelude.{◌==◌, ◌&&◌, ℕ, Bool, true, false, List, Option, Some, None, unwrap_or, if◌then◌else◌}
use Rattle.std.specs.List.{list_any, position_or_len}
use Rattle.std.specs.Ordering.{nat_cmp, bool_cmp, ordering_then}
use Rattle.std.specs.declared.cmp.Ordering.{Ordering}
use Rattle.mach_fat_writer.specs.Entries.{FatEntryView}

-- whether entries have one cputype and one alignment
abbrev pub are_alike : FatEntryView → FatEntryView → Bool
are_alike e f = e.cputype == f.cputype && e.align == f.align

-- the sort key of an entry: entries of arm64 (CPU_TYPE_ARM64) after all others; then the alignment; then, for entries of one
-- cputype and alignment, the index of the first of them; then the cpusubtype
abbrev pub FatRank : Type 0
FatRank = Bool × ℕ × ℕ × ℕ

abbrev pub fat_rank : List FatEntryView → FatEntryView → FatRank
fat_rank given e =
    if e.cputype == 0x100_000c then (true, 0, 0, e.cpusubtype)
    else (false, e.align, position_or_len (λ f. are_alike f e) given, e.cpusubtype)

-- the first difference decides
abbrev pub fat_rank_cmp : FatRank → FatRank → Ordering
fat_rank_cmp x y =
    ordering_then (ordering_then (ordering_then (bool_cmp x.0 y.0) (nat_cmp x.1 y.1)) (nat_cmp x.2 y.2)) (nat_cmp x.3 y.3)

-- the key, given the index of the first entry of each cputype and alignment; `count` if there is none
abbrev pub fat_rank_by : (ℕ × ℕ → Option ℕ) → ℕ → FatEntryView → FatRank
fat_rank_by first count e =
    if e.cputype == 0x100_000c then (true, 0, 0, e.cpusubtype)
    else (false, e.align, unwrap_or (first (e.cputype, e.align)) count, e.cpusubtype)

-- the order of a map's keys
abbrev pub alike_cmp : ℕ × ℕ → ℕ × ℕ → Ordering
alike_cmp x y = ordering_then (nat_cmp x.0 y.0) (nat_cmp x.1 y.1)

abbrev pub is_keyed : ℕ × ℕ → FatEntryView → Bool
is_keyed key e = e.cputype == key.0 && e.align == key.1

-- the index of the first entry of a cputype and an alignment, if there is one
abbrev pub first_keyed : List FatEntryView → ℕ × ℕ → Option ℕ
first_keyed es key = if list_any (is_keyed key) es then Some (position_or_len (is_keyed key) es) else None
