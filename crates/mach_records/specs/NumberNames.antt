-- The names of platforms, tools and protections (`mach-o/loader.h`, `mach/vm_prot.h`).
use Rattle.std.specs.Prelude.{◌==◌, ℕ, List, [], ◌∷◌, ◌++◌, codes, bit_and, Option, if◌then◌else◌}
use Rattle.mach_base.specs.Named.{Named, name_among}

-- platforms (PLATFORM_)
abbrev pub platform_names : List Named
platform_names =
    record { number = 1; name = codes "macos" }
    ∷ record { number = 2; name = codes "ios" }
    ∷ record { number = 3; name = codes "tvos" }
    ∷ record { number = 4; name = codes "watchos" }
    ∷ record { number = 5; name = codes "bridgeos" }
    ∷ record { number = 6; name = codes "maccatalyst" }
    ∷ record { number = 7; name = codes "ios-simulator" }
    ∷ record { number = 8; name = codes "tvos-simulator" }
    ∷ record { number = 9; name = codes "watchos-simulator" }
    ∷ record { number = 10; name = codes "driverkit" }
    ∷ record { number = 11; name = codes "visionos" }
    ∷ record { number = 12; name = codes "visionos-simulator" }
    ∷ []

abbrev pub platform_name : ℕ → Option (List ℕ)
platform_name number = name_among platform_names number

-- tools (TOOL_)
abbrev pub tool_names : List Named
tool_names =
    record { number = 1; name = codes "clang" }
    ∷ record { number = 2; name = codes "swift" }
    ∷ record { number = 3; name = codes "ld" }
    ∷ record { number = 4; name = codes "lld" }
    ∷ record { number = 1024; name = codes "metal" }
    ∷ record { number = 1025; name = codes "airlld" }
    ∷ record { number = 1026; name = codes "airnt" }
    ∷ record { number = 1027; name = codes "airnt-plugin" }
    ∷ record { number = 1028; name = codes "airpack" }
    ∷ record { number = 1031; name = codes "gpuarchiver" }
    ∷ record { number = 1032; name = codes "metal-framework" }
    ∷ []

abbrev pub tool_name : ℕ → Option (List ℕ)
tool_name number = name_among tool_names number

-- the initial protection: reading, writing and execution (VM_PROT_)
abbrev pub right_text : ℕ → (bit : ℕ) → List ℕ → List ℕ
right_text rights bit letter = if bit_and rights bit == 0 then codes "-" else letter

abbrev pub rights_text : ℕ → List ℕ
rights_text rights = right_text rights 1 (codes "r") ++ right_text rights 2 (codes "w") ++ right_text rights 4 (codes "x")
