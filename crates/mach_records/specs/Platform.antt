-- The platforms of `LC_VERSION_MIN_` commands (`mach-o/loader.h`).
use Rattle.std.specs.Prelude.{◌≡◌, ◌≢◌, ℕ, Result, Ok, Err}
use Rattle.mach_base.specs.declared.error.Error.{Error}
use Rattle.mach_base.specs.Fault.{malformed, fault_of}
use Rattle.mach_records.specs.declared.versions.Platform.{Platform}
use Rattle.mach_records.specs.declared.versions.Platform.TheVariants.{Macos, Iphoneos, Tvos, Watchos}

-- the number of the command that names a platform
abbrev pub platform_cmd : Platform → ℕ
platform_cmd Macos = 0x24
platform_cmd Iphoneos = 0x25
platform_cmd Tvos = 0x2f
platform_cmd Watchos = 0x30

-- the number of some platform
abbrev pub IsPlatformCmd : ℕ → Type 0
IsPlatformCmd cmd = (platform : Platform) × (cmd ≡ platform_cmd platform)

-- the platform of this number, or malformed if no platform has it
abbrev pub GivesPlatform : ℕ → Result Platform Error → Type 0
GivesPlatform cmd (Ok platform) = cmd ≡ platform_cmd platform
GivesPlatform cmd (Err e) = (fault_of e ≡ malformed) × ((platform : Platform) → cmd ≢ platform_cmd platform)
