-- The two forms of relocations (`mach-o/reloc.h`, struct relocation_info and
-- scattered_relocation_info), and where their bits are in either byte order.
use Rattle.std.specs.Prelude.{◌==◌, ◌&&◌, ◌||◌, ℕ, Bool, not, if◌then◌else◌}
use Rattle.mach_base.specs.declared.context.Endian.{Endian}
use Rattle.mach_base.specs.declared.context.Endian.TheVariants.{Little, Big}
use Rattle.mach_base.specs.Record.{number_among}
use Rattle.mach_parts.specs.Relocation.{bits_from, relocation_values}
use Rattle.mach_parts.specs.declared.relocation.RelocationInfo.{RelocationInfo}
use Rattle.mach_parts.specs.declared.relocation.forms.Relocation.{Relocation}
use Rattle.mach_parts.specs.declared.relocation.forms.Relocation.TheVariants.{Plain, Scattered}

-- the number of the first four bytes
abbrev pub address_word : RelocationInfo → ℕ
address_word r = number_among (relocation_values r) 0

-- whether the bit is 1
abbrev pub bit_is_one : ℕ → ℕ → Bool
bit_is_one k n = bits_from k 1 n == 1

-- whether a CPU has scattered relocations: the headers of x86_64, arm64 and arm64_32 define none
abbrev pub scatters : ℕ → Bool
scatters cputype = not (cputype == 0x1000007 || cputype == 0x100000c || cputype == 0x200000c)

-- whether a relocation is scattered (R_SCATTERED)
abbrev pub is_scattered : ℕ → RelocationInfo → Bool
is_scattered cputype r = scatters cputype && bit_is_one 31 (address_word r)

-- a plain relocation; in a big-endian image the bit fields are counted from the highest bit
abbrev pub plain_form : Endian → ℕ → ℕ → Relocation
plain_form Little address info =
    Plain address (bits_from 0 24 info) (bit_is_one 24 info) (bits_from 25 2 info) (bit_is_one 27 info) (bits_from 28 4 info)
plain_form Big address info =
    Plain address (bits_from 8 24 info) (bit_is_one 7 info) (bits_from 5 2 info) (bit_is_one 4 info) (bits_from 0 4 info)

-- a scattered relocation, whose bits are in the first word
abbrev pub scattered_form : ℕ → ℕ → Relocation
scattered_form word value = Scattered (bits_from 0 24 word) value (bit_is_one 30 word) (bits_from 28 2 word) (bits_from 24 4 word)

-- a relocation, decoded for a CPU and a byte order
abbrev pub relocation_form : ℕ → Endian → RelocationInfo → Relocation
relocation_form cputype le r =
    if is_scattered cputype r then scattered_form (address_word r) r.r_info else plain_form le (address_word r) r.r_info
