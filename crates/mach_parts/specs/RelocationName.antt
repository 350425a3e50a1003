-- The names of relocation types, by CPU (`mach-o/reloc.h` and the `reloc.h` of each CPU).
use Rattle.std.specs.Prelude.{◌==◌, ℕ, zero, suc, ◌||◌, List, [], ◌∷◌, codes, if◌then◌else◌}

-- the types of x86-64, from 0
abbrev pub x86_64_names : List (List ℕ)
x86_64_names =
    codes "X86_64_RELOC_UNSIGNED"
    ∷ codes "X86_64_RELOC_SIGNED"
    ∷ codes "X86_64_RELOC_BRANCH"
    ∷ codes "X86_64_RELOC_GOT_LOAD"
    ∷ codes "X86_64_RELOC_GOT"
    ∷ codes "X86_64_RELOC_SUBTRACTOR"
    ∷ codes "X86_64_RELOC_SIGNED_1"
    ∷ codes "X86_64_RELOC_SIGNED_2"
    ∷ codes "X86_64_RELOC_SIGNED_4"
    ∷ codes "X86_64_RELOC_TLV"
    ∷ []

-- the types of x86, from 0
abbrev pub x86_names : List (List ℕ)
x86_names =
    codes "GENERIC_RELOC_VANILLA"
    ∷ codes "GENERIC_RELOC_PAIR"
    ∷ codes "GENERIC_RELOC_SECTDIFF"
    ∷ codes "GENERIC_RELOC_PB_LA_PTR"
    ∷ codes "GENERIC_RELOC_LOCAL_SECTDIFF"
    ∷ codes "GENERIC_RELOC_TLV"
    ∷ []

-- the types of ARM, from 0
abbrev pub arm_names : List (List ℕ)
arm_names =
    codes "ARM_RELOC_VANILLA"
    ∷ codes "ARM_RELOC_PAIR"
    ∷ codes "ARM_RELOC_SECTDIFF"
    ∷ codes "ARM_RELOC_LOCAL_SECTDIFF"
    ∷ codes "ARM_RELOC_PB_LA_PTR"
    ∷ codes "ARM_RELOC_BR24"
    ∷ codes "ARM_THUMB_RELOC_BR22"
    ∷ codes "ARM_THUMB_32BIT_BRANCH"
    ∷ codes "ARM_RELOC_HALF"
    ∷ codes "ARM_RELOC_HALF_SECTDIFF"
    ∷ []

-- the types of ARM64, from 0
abbrev pub arm64_names : List (List ℕ)
arm64_names =
    codes "ARM64_RELOC_UNSIGNED"
    ∷ codes "ARM64_RELOC_SUBTRACTOR"
    ∷ codes "ARM64_RELOC_BRANCH26"
    ∷ codes "ARM64_RELOC_PAGE21"
    ∷ codes "ARM64_RELOC_PAGEOFF12"
    ∷ codes "ARM64_RELOC_GOT_LOAD_PAGE21"
    ∷ codes "ARM64_RELOC_GOT_LOAD_PAGEOFF12"
    ∷ codes "ARM64_RELOC_POINTER_TO_GOT"
    ∷ codes "ARM64_RELOC_TLVP_LOAD_PAGE21"
    ∷ codes "ARM64_RELOC_TLVP_LOAD_PAGEOFF12"
    ∷ codes "ARM64_RELOC_ADDEND"
    ∷ []

-- the name of a type among those of a CPU, or UNKNOWN
abbrev pub type_name_of : List (List ℕ) → ℕ → List ℕ
type_name_of [] k = codes "UNKNOWN"
type_name_of (name ∷ names) zero = name
type_name_of (name ∷ names) (suc k) = type_name_of names k

-- the name of a type for a CPU type (CPU_TYPE_ARM64 and CPU_TYPE_ARM64_32, CPU_TYPE_X86_64, CPU_TYPE_ARM, CPU_TYPE_X86), or BAD_CPUTYPE
abbrev pub relocation_name : ℕ → ℕ → List ℕ
relocation_name reloc cputype =
    if cputype == 0x100_000c || cputype == 0x200_000c then type_name_of arm64_names reloc
    else (if cputype == 0x100_0007 then type_name_of x86_64_names reloc
    else (if cputype == 0xc then type_name_of arm_names reloc
    else (if cputype == 0x7 then type_name_of x86_names reloc
    else codes "BAD_CPUTYPE")))
