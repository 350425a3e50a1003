-- The names that `nm` prints for debugging entries (`mach-o/stab.h`).
use Rattle.std.specs.Prelude.{ℕ, List, [], ◌∷◌, codes, Option}
use Rattle.mach_base.specs.Named.{Named, name_among}

abbrev pub stab_names : List Named
stab_names =
    record { number = 0x20; name = codes "GSYM" }
    ∷ record { number = 0x22; name = codes "FNAME" }
    ∷ record { number = 0x24; name = codes "FUN" }
    ∷ record { number = 0x26; name = codes "STSYM" }
    ∷ record { number = 0x28; name = codes "LCSYM" }
    ∷ record { number = 0x2e; name = codes "BNSYM" }
    ∷ record { number = 0x30; name = codes "PC" }
    ∷ record { number = 0x32; name = codes "AST" }
    ∷ record { number = 0x3c; name = codes "OPT" }
    ∷ record { number = 0x40; name = codes "RSYM" }
    ∷ record { number = 0x44; name = codes "SLINE" }
    ∷ record { number = 0x4e; name = codes "ENSYM" }
    ∷ record { number = 0x60; name = codes "SSYM" }
    ∷ record { number = 0x64; name = codes "SO" }
    ∷ record { number = 0x66; name = codes "OSO" }
    ∷ record { number = 0x80; name = codes "LSYM" }
    ∷ record { number = 0x82; name = codes "BINCL" }
    ∷ record { number = 0x84; name = codes "SOL" }
    ∷ record { number = 0x86; name = codes "PARAM" }
    ∷ record { number = 0x88; name = codes "VERS" }
    ∷ record { number = 0x8a; name = codes "OLEV" }
    ∷ record { number = 0xa0; name = codes "PSYM" }
    ∷ record { number = 0xa2; name = codes "EINCL" }
    ∷ record { number = 0xa4; name = codes "ENTRY" }
    ∷ record { number = 0xc0; name = codes "LBRAC" }
    ∷ record { number = 0xc2; name = codes "EXCL" }
    ∷ record { number = 0xe0; name = codes "RBRAC" }
    ∷ record { number = 0xe2; name = codes "BCOMM" }
    ∷ record { number = 0xe4; name = codes "ECOMM" }
    ∷ record { number = 0xe8; name = codes "ECOML" }
    ∷ record { number = 0xfe; name = codes "LENG" }
    ∷ []

-- the name of a type of entry, if it has one
abbrev pub stab_name : ℕ → Option (List ℕ)
stab_name n_type = name_among stab_names n_type
