-- The chain of load commands (`mach-o/loader.h`, struct load_command).
use Rattle.std.specs.Prelude.{◌≡◌, ℕ, ◌+◌, ◌<◌, List, [], ◌∷◌, ◌++◌, length, Ok, Err}
use Rattle.mach_base.specs.declared.context.Endian.{Endian}
use Rattle.mach_base.specs.Fault.{Fault}
use Rattle.mach_load.specs.declared.load_command.LoadCommand.{LoadCommand}
use Rattle.mach_load.specs.Command.{Command, cmdsize_of, command_at}
use Rattle.mach_load.specs.Variants.{command_of}

-- the command is the one at its offset
abbrev pub IsThere : Endian → List ℕ → Command → Type 0
IsThere le bytes c = command_at le bytes c.offset ≡ Ok c

abbrev pub AllThere : Endian → List ℕ → List Command → Type 0
AllThere le bytes [] = Unit {0}
AllThere le bytes (c ∷ cs) = IsThere le bytes c × AllThere le bytes cs

-- the first of them is at s
abbrev pub BeginsAt : ℕ → List Command → Type 0
BeginsAt s [] = Unit {0}
BeginsAt s (c ∷ cs) = c.offset ≡ s

-- each begins as many bytes after the one before it as that one's cmdsize states
abbrev pub IsLinked : List Command → Type 0
IsLinked [] = Unit {0}
IsLinked (c ∷ []) = Unit {0}
IsLinked (c ∷ d ∷ cs) = (d.offset ≡ c.offset + cmdsize_of c) × IsLinked (d ∷ cs)

-- A chain from s: commands at their offsets, linked from s on.
pub record IsChain (le : Endian) (bytes : List ℕ) (s : ℕ) (cs : List Command) : Type 0 where
  pub there : AllThere le bytes cs
  pub begins : BeginsAt s cs
  pub linked : IsLinked cs

-- the place after the last of them, or s
abbrev pub chain_end : ℕ → List Command → ℕ
chain_end s [] = s
chain_end s (c ∷ []) = c.offset + cmdsize_of c
chain_end s (c ∷ d ∷ cs) = chain_end s (d ∷ cs)

-- A chain of n commands from s is broken: after fewer than n there is none, for this fault.
pub record IsBroken (le : Endian) (bytes : List ℕ) (s n : ℕ) (f : Fault) : Type 0 where
  pub front : List Command
  pub chain : IsChain le bytes s front
  pub fewer : length front < n
  pub fault : command_at le bytes (chain_end s front) ≡ Err f

-- `new` is `old` followed by the command at s, and `next` is the place after that command
pub record IsPushed (le : Endian) (bytes : List ℕ) (s next : ℕ) (old new : List LoadCommand) : Type 0 where
  pub command : LoadCommand
  pub items : new ≡ old ++ command ∷ []
  pub there : command_at le bytes s ≡ Ok (command_of command)
  pub moved : next ≡ s + cmdsize_of (command_of command)
