-- Facts on the tables of an image, and the image that was opened there.
use Rattle.std.proofs.Common.{◌≡◌}
use Rattle.goblin_mach.specs.Fixups.{base_view, base_of}
use Rattle.goblin_mach.specs.Modes.{Agrees, HoldsAs}
use Rattle.goblin_mach.specs.OpenImage.{bytes_view, commands_view, ctx_view}
use Rattle.goblin_mach.specs.TableFacts.{HasFunctionStarts, HasDataInCode, HasLinkerOptions, HasBuildTools, HasNotes}
use Rattle.goblin_mach.specs.Tables.{AreStartsAt, data_in_code_there, data_place_in, starts_place_in}
use Rattle.goblin_mach.specs.declared.macho.MachO.{MachO}
use Rattle.goblin_mach.proofs.ImageFacts.{said_of}
use Rattle.mach_load.specs.BuildTools.{build_tools_in}
use Rattle.mach_load.specs.LinkerOptions.{linker_options_in}
use Rattle.mach_load.specs.Notes.{notes_of_commands}

module _ {A : Type 0} (m : MachO A) where
  pub function_starts_are : Agrees m HasFunctionStarts (AreStartsAt (bytes_view m) (starts_place_in (commands_view m)) (base_view m))
  function_starts_are = said_of m (λ items f. AreStartsAt f.bytes (starts_place_in f.commands) (base_of f.segments) items)

  pub data_in_code_are : HoldsAs m HasDataInCode (data_in_code_there (ctx_view m).le (bytes_view m) (data_place_in (commands_view m)))
  data_in_code_are = said_of m (λ items f. items ≡ data_in_code_there f.ctx.le f.bytes (data_place_in f.commands))

  pub linker_options_are : HoldsAs m HasLinkerOptions (linker_options_in (bytes_view m) (commands_view m))
  linker_options_are = said_of m (λ items f. items ≡ linker_options_in f.bytes f.commands)

  pub build_tools_are : HoldsAs m HasBuildTools (build_tools_in (ctx_view m).le (bytes_view m) (commands_view m))
  build_tools_are = said_of m (λ items f. items ≡ build_tools_in f.ctx.le f.bytes f.commands)

  pub notes_are : HoldsAs m HasNotes (notes_of_commands (bytes_view m) (commands_view m))
  notes_are = said_of m (λ items f. items ≡ notes_of_commands f.bytes f.commands)
