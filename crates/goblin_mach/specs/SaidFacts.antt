-- What single commands in the bytes say of the image that opens at a place.
use Rattle.std.specs.Prelude.{◌≡◌, ℕ, List, Option, Result}
use Rattle.mach_base.specs.Fault.{Fault}
use Rattle.mach_parts.specs.Header.{header_in}
use Rattle.goblin_mach.specs.Facts.{OfImage}
use Rattle.goblin_mach.specs.Said.{FilesetEntryView, uuid_in, build_versions_in, source_version_in, encryption_in, dylinker_in, dyld_environment_in}
use Rattle.goblin_mach.specs.Said.{fileset_entries_in}
use Rattle.goblin_mach.specs.declared.said.BuildVersion.{BuildVersion}
use Rattle.goblin_mach.specs.declared.said.Encryption.{Encryption}

-- its UUID, if it has one
abbrev pub HasUuid : List ℕ → ℕ → Option (List ℕ) → Type 0
HasUuid bytes o found = OfImage bytes o (λ ctx cs. found ≡ uuid_in cs)

-- the systems that it was built for
abbrev pub HasBuildVersions : List ℕ → ℕ → List BuildVersion → Type 0
HasBuildVersions bytes o items = OfImage bytes o (λ ctx cs. items ≡ build_versions_in (header_in ctx.container ctx.le bytes o).cputype cs)

-- the version of its sources, if it has one
abbrev pub HasSourceVersion : List ℕ → ℕ → Option ℕ → Type 0
HasSourceVersion bytes o found = OfImage bytes o (λ ctx cs. found ≡ source_version_in cs)

-- its encrypted bytes, if it states any
abbrev pub HasEncryption : List ℕ → ℕ → Option Encryption → Type 0
HasEncryption bytes o found = OfImage bytes o (λ ctx cs. found ≡ encryption_in cs)

-- its dynamic linker, if it requires one: the name, or why it can't be read
abbrev pub HasDylinker : List ℕ → ℕ → Option (Result (List ℕ) Fault) → Type 0
HasDylinker bytes o found = OfImage bytes o (λ ctx cs. found ≡ dylinker_in bytes cs)

-- its settings for the dynamic linker
abbrev pub HasDyldEnvironment : List ℕ → ℕ → List (Result (List ℕ) Fault) → Type 0
HasDyldEnvironment bytes o items = OfImage bytes o (λ ctx cs. items ≡ dyld_environment_in bytes cs)

-- the images of its file set
abbrev pub HasFilesetEntries : List ℕ → ℕ → List (Result FilesetEntryView Fault) → Type 0
HasFilesetEntries bytes o items = OfImage bytes o (λ ctx cs. items ≡ fileset_entries_in bytes cs)
