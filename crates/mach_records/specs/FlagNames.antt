-- The names of the flags of code signatures.
use Rattle.std.specs.Prelude.{ℕ, List, [], ◌∷◌, codes}
use Rattle.mach_base.specs.Named.{Named}
use Rattle.mach_records.specs.declared.flag_names.FlagName.{FlagName}

-- a bit and its name
abbrev pub flag_named : FlagName → Named
flag_named f = record { number = f.bit; name = f.name.now }

-- the flags of a code directory (`CSCommon.h`, SecCodeSignatureFlags; `cs_blobs.h`, CS_)
abbrev pub code_flags : List Named
code_flags =
    record { number = 0x1; name = codes "host" }
    ∷ record { number = 0x2; name = codes "adhoc" }
    ∷ record { number = 0x100; name = codes "force-hard" }
    ∷ record { number = 0x200; name = codes "force-kill" }
    ∷ record { number = 0x400; name = codes "force-expiration" }
    ∷ record { number = 0x800; name = codes "restrict" }
    ∷ record { number = 0x1000; name = codes "enforcement" }
    ∷ record { number = 0x2000; name = codes "library-validation" }
    ∷ record { number = 0x10000; name = codes "runtime" }
    ∷ record { number = 0x20000; name = codes "linker-signed" }
    ∷ []

-- the flags of an executable segment (`cs_blobs.h`, CS_EXECSEG_)
abbrev pub executable_flags : List Named
executable_flags =
    record { number = 0x1; name = codes "main-binary" }
    ∷ record { number = 0x10; name = codes "allow-unsigned" }
    ∷ record { number = 0x20; name = codes "debugger" }
    ∷ record { number = 0x40; name = codes "jit" }
    ∷ record { number = 0x80; name = codes "skip-library-validation" }
    ∷ record { number = 0x100; name = codes "can-load-cdhash" }
    ∷ record { number = 0x200; name = codes "can-exec-cdhash" }
    ∷ []
