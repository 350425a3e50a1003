-- Load commands one after the other, as an iterator returns them.
use Rattle.std.specs.Prelude.{ℕ, zero, suc, ◌+◌, List, [], ◌∷◌, Result, Ok, Err}
use Rattle.mach_base.specs.declared.context.Endian.{Endian}
use Rattle.mach_base.specs.declared.error.Error.{Error}
use Rattle.mach_base.specs.Fault.{Fault, fault_of}
use Rattle.mach_load.specs.Command.{Command, cmdsize_of, command_at}
use Rattle.mach_load.specs.Variants.{command_of}
use Rattle.mach_load.specs.declared.load_command.LoadCommand.{LoadCommand}
use Rattle.goblin_mach.specs.declared.command_iterator.CommandIterator.{CommandIterator}

-- a command and those after it, or only a fault
abbrev pub with_others : Result Command Fault → (Command → List (Result Command Fault)) → List (Result Command Fault)
with_others (Ok c) others = Ok c ∷ others c
with_others (Err f) others = Err f ∷ []

-- `count` commands from a place on, up to the first fault; each begins as many bytes after the one before it as that one's
-- cmdsize states
unfoldable pub commands_from : Endian → List ℕ → ℕ → ℕ → List (Result Command Fault)
commands_from le bytes s zero = []
commands_from le bytes s (suc n) = with_others (command_at le bytes s) (λ c. commands_from le bytes (s + cmdsize_of c) n)

-- the items that an iterator still returns
abbrev pub commands_left : CommandIterator → List (Result Command Fault)
commands_left it = commands_from it.le it.bytes.now it.place it.left

-- what was read, as a command or a fault
abbrev pub command_read : Result LoadCommand Error → Result Command Fault
command_read (Ok c) = Ok (command_of c)
command_read (Err e) = Err (fault_of e)
