-- The names of load commands (`mach-o/loader.h`).
use Rattle.std.specs.Prelude.{ℕ, List, [], ◌∷◌, ◌++◌, codes, Option, unwrap_or}
use Rattle.mach_base.specs.Named.{Named, name_among}

-- the number of each command of goblin's table, and the name of its constant
abbrev pub command_names : List Named
command_names =
    record { number = 0x1; name = codes "LC_SEGMENT" }
    ∷ record { number = 0x2; name = codes "LC_SYMTAB" }
    ∷ record { number = 0x3; name = codes "LC_SYMSEG" }
    ∷ record { number = 0x4; name = codes "LC_THREAD" }
    ∷ record { number = 0x5; name = codes "LC_UNIXTHREAD" }
    ∷ record { number = 0x6; name = codes "LC_LOADFVMLIB" }
    ∷ record { number = 0x7; name = codes "LC_IDFVMLIB" }
    ∷ record { number = 0x8; name = codes "LC_IDENT" }
    ∷ record { number = 0x9; name = codes "LC_FVMFILE" }
    ∷ record { number = 0xa; name = codes "LC_PREPAGE" }
    ∷ record { number = 0xb; name = codes "LC_DYSYMTAB" }
    ∷ record { number = 0xc; name = codes "LC_LOAD_DYLIB" }
    ∷ record { number = 0xd; name = codes "LC_ID_DYLIB" }
    ∷ record { number = 0xe; name = codes "LC_LOAD_DYLINKER" }
    ∷ record { number = 0xf; name = codes "LC_ID_DYLINKER" }
    ∷ record { number = 0x10; name = codes "LC_PREBOUND_DYLIB" }
    ∷ record { number = 0x11; name = codes "LC_ROUTINES" }
    ∷ record { number = 0x12; name = codes "LC_SUB_FRAMEWORK" }
    ∷ record { number = 0x13; name = codes "LC_SUB_UMBRELLA" }
    ∷ record { number = 0x14; name = codes "LC_SUB_CLIENT" }
    ∷ record { number = 0x15; name = codes "LC_SUB_LIBRARY" }
    ∷ record { number = 0x16; name = codes "LC_TWOLEVEL_HINTS" }
    ∷ record { number = 0x17; name = codes "LC_PREBIND_CKSUM" }
    ∷ record { number = 0x19; name = codes "LC_SEGMENT_64" }
    ∷ record { number = 0x1a; name = codes "LC_ROUTINES_64" }
    ∷ record { number = 0x1b; name = codes "LC_UUID" }
    ∷ record { number = 0x1d; name = codes "LC_CODE_SIGNATURE" }
    ∷ record { number = 0x1e; name = codes "LC_SEGMENT_SPLIT_INFO" }
    ∷ record { number = 0x20; name = codes "LC_LAZY_LOAD_DYLIB" }
    ∷ record { number = 0x21; name = codes "LC_ENCRYPTION_INFO" }
    ∷ record { number = 0x22; name = codes "LC_DYLD_INFO" }
    ∷ record { number = 0x24; name = codes "LC_VERSION_MIN_MACOSX" }
    ∷ record { number = 0x25; name = codes "LC_VERSION_MIN_IPHONEOS" }
    ∷ record { number = 0x26; name = codes "LC_FUNCTION_STARTS" }
    ∷ record { number = 0x27; name = codes "LC_DYLD_ENVIRONMENT" }
    ∷ record { number = 0x29; name = codes "LC_DATA_IN_CODE" }
    ∷ record { number = 0x2a; name = codes "LC_SOURCE_VERSION" }
    ∷ record { number = 0x2b; name = codes "LC_DYLIB_CODE_SIGN_DRS" }
    ∷ record { number = 0x2c; name = codes "LC_ENCRYPTION_INFO_64" }
    ∷ record { number = 0x2d; name = codes "LC_LINKER_OPTION" }
    ∷ record { number = 0x2e; name = codes "LC_LINKER_OPTIMIZATION_HINT" }
    ∷ record { number = 0x2f; name = codes "LC_VERSION_MIN_TVOS" }
    ∷ record { number = 0x30; name = codes "LC_VERSION_MIN_WATCHOS" }
    ∷ record { number = 0x31; name = codes "LC_NOTE" }
    ∷ record { number = 0x32; name = codes "LC_BUILD_VERSION" }
    ∷ record { number = 0x8000_0018; name = codes "LC_LOAD_WEAK_DYLIB" }
    ∷ record { number = 0x8000_001c; name = codes "LC_RPATH" }
    ∷ record { number = 0x8000_001f; name = codes "LC_REEXPORT_DYLIB" }
    ∷ record { number = 0x8000_0022; name = codes "LC_DYLD_INFO_ONLY" }
    ∷ record { number = 0x8000_0023; name = codes "LC_LOAD_UPWARD_DYLIB" }
    ∷ record { number = 0x8000_0028; name = codes "LC_MAIN" }
    ∷ record { number = 0x8000_0033; name = codes "LC_DYLD_EXPORTS_TRIE" }
    ∷ record { number = 0x8000_0034; name = codes "LC_DYLD_CHAINED_FIXUPS" }
    ∷ record { number = 0x8000_0035; name = codes "LC_FILESET_ENTRY" }
    ∷ []

-- the commands of later headers, which that table lacks
abbrev pub newer_command_names : List Named
newer_command_names =
    record { number = 0x36; name = codes "LC_ATOM_INFO" }
    ∷ record { number = 0x37; name = codes "LC_FUNCTION_VARIANTS" }
    ∷ record { number = 0x38; name = codes "LC_FUNCTION_VARIANT_FIXUPS" }
    ∷ record { number = 0x39; name = codes "LC_TARGET_TRIPLE" }
    ∷ []

-- the name of a command as goblin has it: that of its table, or LC_UNKNOWN
abbrev pub port_name : ℕ → List ℕ
port_name cmd = unwrap_or (name_among command_names cmd) (codes "LC_UNKNOWN")

-- the name of a command, if a header names it
abbrev pub command_name : ℕ → Option (List ℕ)
command_name cmd = name_among (newer_command_names ++ command_names) cmd
