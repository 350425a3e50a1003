-- The table at the start of a fat file (`mach-o/fat.h`, struct fat_header and fat_arch).
use Rattle.std.specs.Prelude.{ℕ, ◌+◌, List, [], ◌∷◌, length, take, drop, nat_le, if◌then◌else◌}
use Rattle.mach_base.specs.Record.{Field, num, Value, number_is, number_among}
use Rattle.mach_parts.specs.declared.fat.FatHeader.{FatHeader}
use Rattle.mach_parts.specs.declared.fat.FatArch.{FatArch}

-- struct fat_header
abbrev pub fat_header_fields : List Field
fat_header_fields = num 4 ∷ num 4 ∷ []

abbrev pub fat_header_values : FatHeader → List Value
fat_header_values h = number_is h.magic ∷ number_is h.nfat_arch ∷ []

-- struct fat_arch
abbrev pub fat_arch_fields : List Field
fat_arch_fields = num 4 ∷ num 4 ∷ num 4 ∷ num 4 ∷ num 4 ∷ []

abbrev pub fat_arch_values : FatArch → List Value
fat_arch_values a =
    number_is a.cputype ∷ number_is a.cpusubtype ∷ number_is a.offset ∷ number_is a.size ∷ number_is a.align
    ∷ []

abbrev pub fat_arch_of_values : List Value → FatArch
fat_arch_of_values vs =
    record {
      cputype = number_among vs 0;
      cpusubtype = number_among vs 1;
      offset = number_among vs 2;
      size = number_among vs 3;
      align = number_among vs 4;
    }

-- the n bytes at s if they lie in the bytes, or else none
abbrev pub part_of : List ℕ → ℕ → ℕ → List ℕ
part_of bytes s n = if nat_le (s + n) (length bytes) then take n (drop s bytes) else []
