-- CPU types and subtypes (`mach/machine.h`), as in headers and fat records.
use Rattle.std.specs.Prelude.{ℕ, ◌%◌, ◌/◌, ◌^◌}
use Rattle.std.specs.Int.{IsBitSet}

-- the addresses of this CPU have 64 bits: bit 24 of the CPU type (CPU_ARCH_ABI64)
abbrev pub HasAbi64 : ℕ → Type 0
HasAbi64 cputype = IsBitSet cputype 24

-- the CPU subtype without its capabilities, which are the top 8 bits (CPU_SUBTYPE_MASK)
abbrev pub kind_of_cpu : ℕ → ℕ
kind_of_cpu cpusubtype = cpusubtype % 2 ^ 24

-- the capabilities
abbrev pub caps_of_cpu : ℕ → ℕ
caps_of_cpu cpusubtype = cpusubtype / 2 ^ 24
