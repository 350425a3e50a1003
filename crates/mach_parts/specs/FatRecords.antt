-- The magic of a 64-bit fat file (`mach-o/fat.h`, FAT_MAGIC_64), and the record of an entry there (struct fat_arch_64).
use Rattle.std.specs.Prelude.{◌≡◌, ℕ, List, [], ◌∷◌, Ok}
use Rattle.mach_base.specs.Number.{number_at}
use Rattle.mach_base.specs.Record.{Field, num, Value, number_is, number_among}
use Rattle.mach_base.specs.declared.context.Endian.TheVariants.{Big}
use Rattle.mach_parts.specs.declared.fat64.FatArch64.{FatArch64}

-- the bytes begin with the magic of a 64-bit fat file
abbrev pub HasFat64Magic : List ℕ → Type 0
HasFat64Magic bytes = number_at Big 4 bytes 0 ≡ Ok 0xcafe_babf

abbrev pub fat_arch_64_fields : List Field
fat_arch_64_fields = num 4 ∷ num 4 ∷ num 8 ∷ num 8 ∷ num 4 ∷ num 4 ∷ []

abbrev pub fat_arch_64_values : FatArch64 → List Value
fat_arch_64_values a =
    number_is a.cputype ∷ number_is a.cpusubtype ∷ number_is a.offset ∷ number_is a.size ∷ number_is a.align
    ∷ number_is a.reserved ∷ []

abbrev pub fat_arch_64_of_values : List Value → FatArch64
fat_arch_64_of_values vs =
    record {
      cputype = number_among vs 0;
      cpusubtype = number_among vs 1;
      offset = number_among vs 2;
      size = number_among vs 3;
      align = number_among vs 4;
      reserved = number_among vs 5;
    }
