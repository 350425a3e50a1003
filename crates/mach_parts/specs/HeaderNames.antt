-- The names of a header's flags and of file types (`mach-o/loader.h`).
use Rattle.std.specs.Prelude.{ℕ, List, [], ◌∷◌, codes}
use Rattle.mach_base.specs.Named.{Named, name_or}

abbrev pub flag_names : List Named
flag_names =
    record { number = 0x1; name = codes "MH_NOUNDEFS" }
    ∷ record { number = 0x2; name = codes "MH_INCRLINK" }
    ∷ record { number = 0x4; name = codes "MH_DYLDLINK" }
    ∷ record { number = 0x8; name = codes "MH_BINDATLOAD" }
    ∷ record { number = 0x10; name = codes "MH_PREBOUND" }
    ∷ record { number = 0x20; name = codes "MH_SPLIT_SEGS" }
    ∷ record { number = 0x40; name = codes "MH_LAZY_INIT" }
    ∷ record { number = 0x80; name = codes "MH_TWOLEVEL" }
    ∷ record { number = 0x100; name = codes "MH_FORCE_FLAT" }
    ∷ record { number = 0x200; name = codes "MH_NOMULTIDEFS" }
    ∷ record { number = 0x400; name = codes "MH_NOFIXPREBINDING" }
    ∷ record { number = 0x800; name = codes "MH_PREBINDABLE" }
    ∷ record { number = 0x1000; name = codes "MH_ALLMODSBOUND" }
    ∷ record { number = 0x2000; name = codes "MH_SUBSECTIONS_VIA_SYMBOLS" }
    ∷ record { number = 0x4000; name = codes "MH_CANONICAL" }
    ∷ record { number = 0x8000; name = codes "MH_WEAK_DEFINES" }
    ∷ record { number = 0x1_0000; name = codes "MH_BINDS_TO_WEAK" }
    ∷ record { number = 0x2_0000; name = codes "MH_ALLOW_STACK_EXECUTION" }
    ∷ record { number = 0x4_0000; name = codes "MH_ROOT_SAFE" }
    ∷ record { number = 0x8_0000; name = codes "MH_SETUID_SAFE" }
    ∷ record { number = 0x10_0000; name = codes "MH_NO_REEXPORTED_DYLIBS" }
    ∷ record { number = 0x20_0000; name = codes "MH_PIE" }
    ∷ record { number = 0x40_0000; name = codes "MH_DEAD_STRIPPABLE_DYLIB" }
    ∷ record { number = 0x80_0000; name = codes "MH_HAS_TLV_DESCRIPTORS" }
    ∷ record { number = 0x100_0000; name = codes "MH_NO_HEAP_EXECUTION" }
    ∷ record { number = 0x200_0000; name = codes "MH_APP_EXTENSION_SAFE" }
    ∷ []

-- the name of exactly one flag
abbrev pub flag_name : ℕ → List ℕ
flag_name flag = name_or (codes "UNKNOWN FLAG") flag_names flag

abbrev pub filetype_names : List Named
filetype_names =
    record { number = 0x1; name = codes "OBJECT" }
    ∷ record { number = 0x2; name = codes "EXECUTE" }
    ∷ record { number = 0x3; name = codes "FVMLIB" }
    ∷ record { number = 0x4; name = codes "CORE" }
    ∷ record { number = 0x5; name = codes "PRELOAD" }
    ∷ record { number = 0x6; name = codes "DYLIB" }
    ∷ record { number = 0x7; name = codes "DYLINKER" }
    ∷ record { number = 0x8; name = codes "BUNDLE" }
    ∷ record { number = 0x9; name = codes "DYLIB_STUB" }
    ∷ record { number = 0xa; name = codes "DSYM" }
    ∷ record { number = 0xb; name = codes "KEXT_BUNDLE" }
    ∷ record { number = 0xc; name = codes "FILESET" }
    ∷ record { number = 0xd; name = codes "GPU_EXECUTE" }
    ∷ record { number = 0xe; name = codes "GPU_DYLIB" }
    ∷ []

-- the name of a file type
abbrev pub filetype_name : ℕ → List ℕ
filetype_name filetype = name_or (codes "UNKNOWN FILETYPE") filetype_names filetype
