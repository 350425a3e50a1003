-- What the rules read of an image that was opened at the first of its bytes.
use Rattle.goblin_mach.specs.OpenImage.{bytes_view, ctx_view, commands_view}
use Rattle.goblin_mach.specs.declared.macho.MachO.{MachO}
use Rattle.mach_layout.specs.Laid.{Laid}

-- what the rules read of an image, as it holds it
abbrev pub laid_view : {A : Type 0} → MachO A → Laid
laid_view m = record { bytes = bytes_view m; ctx = ctx_view m; header = m.header; commands = commands_view m }
