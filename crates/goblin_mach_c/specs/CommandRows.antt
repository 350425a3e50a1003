-- The load commands as C sees them.
use Rattle.std.specs.Prelude.{ℕ, zero, suc, ◌+◌, ◌/◌, min, List, [], ◌∷◌, length, map, Result, Ok, Err}
use Rattle.mach_base.specs.declared.context.Endian.{Endian}
use Rattle.mach_base.specs.Fault.{Fault}
use Rattle.mach_load.specs.Command.{Command, cmd_of, cmdsize_of, command_at}
use Rattle.goblin_mach_c.specs.CViews.{gm_ctx_view}
use Rattle.goblin_mach_c.specs.declared.commands.Commands.{Commands}
use Rattle.goblin_mach_c.specs.declared.commands.gm_command.{gm_command}
use Rattle.goblin_mach_c.specs.declared.images.gm_image.{gm_image}

-- a command and those after it, or nothing if it can't be read
abbrev pub with_those_following : Result Command Fault → (Command → List Command) → List Command
with_those_following (Ok c) following = c ∷ following c
with_those_following (Err f) following = []

-- the commands from a place on, one after the other: as many as the count says, or those before the first that can't be read
unfoldable pub readable_commands_from : Endian → List ℕ → ℕ → ℕ → List Command
readable_commands_from le bytes place zero = []
readable_commands_from le bytes place (suc count) =
    with_those_following (command_at le bytes place) (λ c. readable_commands_from le bytes (place + cmdsize_of c) count)

-- the commands by the numbers of an image: no more than could lie in the bytes, since each has at least 8 of them
abbrev pub gm_commands_view : List ℕ → gm_image → List Command
gm_commands_view bytes image = readable_commands_from (gm_ctx_view image).le bytes image.first_command (min image.commands (length bytes / 8))

-- the commands that are left
abbrev pub readable_commands_left : Commands → List Command
readable_commands_left it = readable_commands_from it.le it.bytes.now it.place it.count

-- a command as C sees it
abbrev pub command_row : Command → gm_command
command_row c = record { offset = c.offset; size = cmdsize_of c; cmd = cmd_of c; reserved = 0 }

abbrev pub gm_command_rows_view : List ℕ → gm_image → List gm_command
gm_command_rows_view bytes image = map command_row (gm_commands_view bytes image)
