-- What is shown of a part, and under which name.
use Rattle.std.specs.Prelude.{ℕ, List, Option, Some, None, Result, Ok, string_bytes}
use Rattle.mach_base.specs.Answer.{◌>>=◌}
use Rattle.mach_base.specs.Fault.{Fault}
use Rattle.goblin_mach.specs.Items.{ContentView, archive_member, no_member, whole_file}
use Rattle.mach_cli.specs.PartNames.{part_name}
use Rattle.mach_cli.specs.declared.parts.shown.ShownPart.{ShownPart}
use Rattle.mach_cli.specs.declared.parts.shown.ShownPart.TheVariants.{Itself, Nothing, Within}

-- nothing; the file itself; or bytes with their own name
pub data PartShown : Type 0 where
  shows_nothing : PartShown
  shows_file : (bytes : List ℕ) → PartShown
  shows_within : (name bytes : List ℕ) → PartShown

abbrev pub shown_part_view : ShownPart → PartShown
shown_part_view Nothing = shows_nothing
shown_part_view (Itself bytes) = shows_file bytes.now
shown_part_view (Within name bytes) = shows_within (string_bytes name) bytes.now

-- an entry or a member has its own name; an archive without members shows nothing
abbrev pub shown_of : (file : List ℕ) → Option ℕ → ContentView → PartShown
shown_of file None (whole_file bytes) = shows_file bytes
shown_of file (Some entry) (whole_file bytes) = shows_within (part_name file (Some entry) (whole_file bytes)) bytes
shown_of file entry (archive_member m) = shows_within (part_name file entry (archive_member m)) m.bytes
shown_of file entry no_member = shows_nothing

abbrev pub shown_in : (file : List ℕ) → Option ℕ → Result ContentView Fault → Result PartShown Fault
shown_in file entry content = content >>= (λ c. Ok (shown_of file entry c))
