-- What an image is, in words, by the kind in its header (`mach-o/loader.h`, struct mach_header).
use Rattle.std.specs.Prelude.{ℕ, List, [], ◌∷◌, codes}
use Rattle.mach_base.specs.Named.{Named, name_or}

-- the kinds of images (MH_OBJECT and the others)
abbrev pub image_kinds : List Named
image_kinds =
    record { number = 0x1; name = codes "object" }
    ∷ record { number = 0x2; name = codes "executable" }
    ∷ record { number = 0x3; name = codes "fixed library" }
    ∷ record { number = 0x4; name = codes "core" }
    ∷ record { number = 0x5; name = codes "preloaded executable" }
    ∷ record { number = 0x6; name = codes "dynamic library" }
    ∷ record { number = 0x7; name = codes "dynamic linker" }
    ∷ record { number = 0x8; name = codes "bundle" }
    ∷ record { number = 0x9; name = codes "library stub" }
    ∷ record { number = 0xa; name = codes "dsym" }
    ∷ record { number = 0xb; name = codes "kext bundle" }
    ∷ record { number = 0xc; name = codes "file set" }
    ∷ record { number = 0xd; name = codes "GPU executable" }
    ∷ record { number = 0xe; name = codes "GPU library" }
    ∷ []

-- the kind of this number, `image` if it is none of them
abbrev pub image_kind : ℕ → List ℕ
image_kind filetype = name_or (codes "image") image_kinds filetype
