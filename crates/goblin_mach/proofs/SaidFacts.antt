-- Facts on what single commands say, and the image that was opened there.
use Rattle.std.proofs.Common.{◌≡◌}
use Rattle.goblin_mach.specs.Modes.{HoldsAs}
use Rattle.goblin_mach.specs.OpenImage.{bytes_view, commands_view}
use Rattle.goblin_mach.specs.Said.{uuid_in, build_versions_in, source_version_in, encryption_in, dylinker_in, dyld_environment_in, fileset_entries_in}
use Rattle.goblin_mach.specs.SaidFacts.{HasUuid, HasBuildVersions, HasSourceVersion, HasEncryption, HasDylinker, HasDyldEnvironment, HasFilesetEntries}
use Rattle.goblin_mach.specs.declared.macho.MachO.{MachO}
use Rattle.goblin_mach.proofs.ImageFacts.{said_of}

module _ {A : Type 0} (m : MachO A) where
  pub uuid_is : HoldsAs m HasUuid (uuid_in (commands_view m))
  uuid_is = said_of m (λ found f. found ≡ uuid_in f.commands)

  pub build_versions_are : HoldsAs m HasBuildVersions (build_versions_in m.header.cputype (commands_view m))
  build_versions_are = said_of m (λ items f. items ≡ build_versions_in f.header.cputype f.commands)

  pub source_version_is : HoldsAs m HasSourceVersion (source_version_in (commands_view m))
  source_version_is = said_of m (λ found f. found ≡ source_version_in f.commands)

  pub encryption_is : HoldsAs m HasEncryption (encryption_in (commands_view m))
  encryption_is = said_of m (λ found f. found ≡ encryption_in f.commands)

  pub dylinker_is : HoldsAs m HasDylinker (dylinker_in (bytes_view m) (commands_view m))
  dylinker_is = said_of m (λ found f. found ≡ dylinker_in f.bytes f.commands)

  pub dyld_environment_is : HoldsAs m HasDyldEnvironment (dyld_environment_in (bytes_view m) (commands_view m))
  dyld_environment_is = said_of m (λ items f. items ≡ dyld_environment_in f.bytes f.commands)

  pub fileset_entries_are : HoldsAs m HasFilesetEntries (fileset_entries_in (bytes_view m) (commands_view m))
  fileset_entries_are = said_of m (λ items f. items ≡ fileset_entries_in f.bytes f.commands)
