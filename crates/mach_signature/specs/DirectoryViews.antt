-- What contracts see of a code directory.
use Rattle.std.specs.Prelude.{ℕ, List, Option}
use Rattle.std.specs.Borrow.{Bor}
use Rattle.std.specs.Option.{option_map}
use Rattle.mach_signature.specs.Directories.{Directory}
use Rattle.mach_signature.specs.declared.directory.CodeDirectory.{CodeDirectory}

abbrev pub directory_view : CodeDirectory → Directory
directory_view d = record {
  bytes = d.bytes.now;
  head = d.head;
  hash = d.hash;
  scatter_offset = d.scatter_offset;
  team_offset = d.team_offset;
  spare3 = d.spare3;
  code_limit64 = d.code_limit64;
  executable = d.executable;
  runtime = d.runtime;
}

-- a slot, as it is given
abbrev pub slot_read : Option (Bor (List ℕ)) → Option (List ℕ)
slot_read slot = option_map (λ s. s.now) slot
