-- The load commands of an image, each with its number.
use Rattle.std.specs.Prelude.{◌≡◌, ℕ, ◌+◌, List, [], ◌∷◌, drop, map}
use Rattle.mach_base.specs.declared.context.Endian.{Endian}
use Rattle.mach_load.specs.Command.{Command}
use Rattle.mach_load.specs.Variants.{command_of}
use Rattle.goblin_mach.specs.ImageFacts.{OfFacts}
use Rattle.mach_cli.specs.Fields.{FieldView}
use Rattle.machinfo.specs.CommandFields.{command_fields}
use Rattle.machinfo.specs.declared.commands.NumberedCommand.{NumberedCommand}
use Rattle.machinfo.specs.declared.commands.NumberedCommands as declared

-- a command of these bytes, their order, and its number
pub record NumberedCommandView : Type 0 where
  pub bytes : List ℕ
  pub le : Endian
  pub number : ℕ
  pub command : Command

abbrev pub numbered_command : Endian → List ℕ → ℕ → Command → NumberedCommandView
numbered_command le bytes n c = record { bytes = bytes; le = le; number = n; command = c }

abbrev pub numbered_command_fields : NumberedCommandView → List FieldView
numbered_command_fields it = command_fields it.le it.bytes it.number it.command

-- some commands, the first of which has this number
abbrev pub numbered_commands_from : Endian → List ℕ → ℕ → List Command → List NumberedCommandView
numbered_commands_from le bytes n [] = []
numbered_commands_from le bytes n (c ∷ cs) = numbered_command le bytes n c ∷ numbered_commands_from le bytes (n + 1) cs

-- these are the commands of the image at an offset
abbrev pub HasNumberedCommands : List ℕ → ℕ → List NumberedCommandView → Type 0
HasNumberedCommands bytes o items = OfFacts bytes o (λ f. items ≡ numbered_commands_from f.ctx.le f.bytes 0 f.commands)

-- ---- what the code's values mean

abbrev pub numbered_command_view : NumberedCommand → NumberedCommandView
numbered_command_view it = numbered_command it.le it.bytes.now it.number (command_of it.command.now)

abbrev pub numbered_commands_left : declared.NumberedCommands → List NumberedCommandView
numbered_commands_left it = numbered_commands_from it.le it.bytes.now it.number (map command_of (drop it.number it.commands.now))
