-- Whether a file begins as a fat file of 32 bits (`mach-o/fat.h`, FAT_MAGIC).
use Rattle.std.specs.Prelude.{◌==◌, ℕ, List, Bool, false, Result, Ok, Err}
use Rattle.mach_base.specs.Fault.{Fault}
use Rattle.mach_base.specs.Number.{number_at}
use Rattle.mach_base.specs.declared.context.Endian.TheVariants.{Big}

abbrev pub is_fat_magic : Result ℕ Fault → Bool
is_fat_magic (Ok magic) = magic == 0xcafe_babe
is_fat_magic (Err f) = false

abbrev pub begins_fat : List ℕ → Bool
begins_fat bytes = is_fat_magic (number_at Big 4 bytes 0)
