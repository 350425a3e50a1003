-- The texts that a program has about itself.
use Rattle.std.specs.Prelude.{ℕ, List, Option, Some, None}
use Rattle.mach_cli.specs.declared.call.Asked.{Asked}
use Rattle.mach_cli.specs.declared.call.Asked.TheVariants.{Usage, Help, Version}
use Rattle.mach_cli.specs.declared.program.Program.{Program}

-- the text that an option asks for; the help is put together of the program's flags
abbrev pub program_text : Program → Asked → Option (List ℕ)
program_text program Usage = Some program.usage.now
program_text program Version = Some program.version.now
program_text program Help = None
