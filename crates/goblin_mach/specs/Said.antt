-- What single commands say of an image (`mach-o/loader.h`): its UUID, the systems it was built for, the version of its sources, its encrypted bytes, its
-- dynamic linker with the settings for it, and the images of a file set.
use Rattle.std.specs.Prelude.{◌==◌, ◌||◌, ℕ, List, Bool, true, false, Option, Some, None, Result, Ok, filter_map, if◌then◌else◌}
use Rattle.mach_base.specs.Answer.{◌>>=◌}
use Rattle.mach_base.specs.Fault.{Fault}
use Rattle.mach_base.specs.Number.{place_after}
use Rattle.mach_base.specs.Record.{Value, number_among, bytes_among}
use Rattle.mach_base.specs.Text.{text_at}
use Rattle.mach_load.specs.Command.{Command}
use Rattle.mach_load.specs.Commands.{Kind, uuid, build_version, version_min_macosx, version_min_iphoneos, version_min_tvos, version_min_watchos, source_version}
use Rattle.mach_load.specs.Commands.{encryption_info32, encryption_info64, load_dylinker, dyld_environment, fileset_entry}
use Rattle.goblin_mach.specs.Readings.{first_of}
use Rattle.goblin_mach.specs.Subjects.{name_place}
use Rattle.goblin_mach.specs.declared.said.BuildVersion.{BuildVersion}
use Rattle.goblin_mach.specs.declared.said.Encryption.{Encryption}

-- ---- the UUID (struct uuid_command)

abbrev pub uuid_in_values : Kind → List Value → Option (List ℕ)
uuid_in_values uuid values = Some (bytes_among values 2)
uuid_in_values _ values = None

abbrev pub uuid_said : Command → Option (List ℕ)
uuid_said c = uuid_in_values c.kind c.values

-- the UUID of an image: that of the first command that has one (dyld's `Header::getUuid`)
abbrev pub uuid_in : List Command → Option (List ℕ)
uuid_in cs = first_of (filter_map uuid_said cs)

-- ---- the systems (struct build_version_command, struct version_min_command; PLATFORM_)

-- the cpus of simulators: CPU_TYPE_X86 and CPU_TYPE_X86_64
abbrev pub is_x86 : (cputype : ℕ) → Bool
is_x86 cputype = (cputype == 7) || (cputype == 16777223)

-- a LC_VERSION_MIN_ names a system; for x86 it means the simulator of that system (dyld's `MachOFile::forEachSupportedPlatform`)
abbrev pub system_or_simulator : (cputype system simulator : ℕ) → ℕ
system_or_simulator cputype system simulator = if is_x86 cputype then simulator else system

abbrev pub version_min_of : (platform : ℕ) → List Value → Option BuildVersion
version_min_of platform values = Some (record { platform = platform; minos = number_among values 2; sdk = number_among values 3 })

abbrev pub build_version_of : (cputype : ℕ) → Kind → List Value → Option BuildVersion
build_version_of cputype build_version values =
    Some (record { platform = number_among values 2; minos = number_among values 3; sdk = number_among values 4 })
build_version_of cputype version_min_macosx values = version_min_of 1 values
build_version_of cputype version_min_iphoneos values = version_min_of (system_or_simulator cputype 2 7) values
build_version_of cputype version_min_tvos values = version_min_of (system_or_simulator cputype 3 8) values
build_version_of cputype version_min_watchos values = version_min_of (system_or_simulator cputype 4 9) values
build_version_of cputype _ values = None

abbrev pub build_version_said : (cputype : ℕ) → Command → Option BuildVersion
build_version_said cputype c = build_version_of cputype c.kind c.values

-- the systems that an image for a cpu was built for, in the order of the commands
abbrev pub build_versions_in : (cputype : ℕ) → List Command → List BuildVersion
build_versions_in cputype cs = filter_map (build_version_said cputype) cs

-- ---- the version of the sources (struct source_version_command)

abbrev pub source_version_of : Kind → List Value → Option ℕ
source_version_of source_version values = Some (number_among values 2)
source_version_of _ values = None

abbrev pub source_version_said : Command → Option ℕ
source_version_said c = source_version_of c.kind c.values

-- that of the first command that has one
abbrev pub source_version_in : List Command → Option ℕ
source_version_in cs = first_of (filter_map source_version_said cs)

-- ---- the encrypted bytes (struct encryption_info_command, struct encryption_info_command_64)

abbrev pub encrypted_range_of : List Value → Option Encryption
encrypted_range_of values = Some (record { offset = number_among values 2; size = number_among values 3; id = number_among values 4 })

abbrev pub encryption_of : Kind → List Value → Option Encryption
encryption_of encryption_info32 values = encrypted_range_of values
encryption_of encryption_info64 values = encrypted_range_of values
encryption_of _ values = None

abbrev pub encryption_said : Command → Option Encryption
encryption_said c = encryption_of c.kind c.values

-- those of the first command that states any (dyld's `MachOFile::findFairPlayEncryptionLoadCommand`)
abbrev pub encryption_in : List Command → Option Encryption
encryption_in cs = first_of (filter_map encryption_said cs)

-- ---- the dynamic linker, and the settings for it (struct dylinker_command)

abbrev pub is_load_dylinker : Kind → Bool
is_load_dylinker load_dylinker = true
is_load_dylinker _ = false

abbrev pub dylinker_said : List ℕ → Command → Option (Result (List ℕ) Fault)
dylinker_said bytes c = if is_load_dylinker c.kind then Some (text_at bytes (name_place c)) else None

-- the name of the dynamic linker, or its fault: by the first LC_LOAD_DYLINKER, as the kernel's `parse_machfile`
abbrev pub dylinker_in : List ℕ → List Command → Option (Result (List ℕ) Fault)
dylinker_in bytes cs = first_of (filter_map (dylinker_said bytes) cs)

abbrev pub is_dyld_environment : Kind → Bool
is_dyld_environment dyld_environment = true
is_dyld_environment _ = false

abbrev pub dyld_setting_said : List ℕ → Command → Option (Result (List ℕ) Fault)
dyld_setting_said bytes c = if is_dyld_environment c.kind then Some (text_at bytes (name_place c)) else None

-- the settings, each a text or why it can't be read, in the order of the commands
abbrev pub dyld_environment_in : List ℕ → List Command → List (Result (List ℕ) Fault)
dyld_environment_in bytes cs = filter_map (dyld_setting_said bytes) cs

-- ---- the images of a file set (struct fileset_entry_command)

pub record FilesetEntryView : Type 0 where
  pub name : List ℕ
  pub address : ℕ
  pub offset : ℕ

-- the image whose name is at a place
abbrev pub fileset_entry_at : List ℕ → (place address offset : ℕ) → Result FilesetEntryView Fault
fileset_entry_at bytes place address offset =
    text_at bytes place >>= (λ name. Ok (record { name = name; address = address; offset = offset }))

-- the image that a command names; the place of its name counts from the command's offset
abbrev pub fileset_entry_of : List ℕ → (start : ℕ) → Kind → List Value → Option (Result FilesetEntryView Fault)
fileset_entry_of bytes start fileset_entry values =
    Some (fileset_entry_at bytes (place_after start (number_among values 4)) (number_among values 2) (number_among values 3))
fileset_entry_of bytes start _ values = None

abbrev pub fileset_entry_said : List ℕ → Command → Option (Result FilesetEntryView Fault)
fileset_entry_said bytes c = fileset_entry_of bytes c.offset c.kind c.values

-- all of them, each one or why its name can't be read, in the order of the commands
abbrev pub fileset_entries_in : List ℕ → List Command → List (Result FilesetEntryView Fault)
fileset_entries_in bytes cs = filter_map (fileset_entry_said bytes) cs
