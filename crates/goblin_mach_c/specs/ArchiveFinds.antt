-- The members that are found in an archive.
use Rattle.std.specs.Prelude.{ℕ, List, [], ◌∷◌, Bool, false, Option, Some, None, Result, Ok, Err, if◌then◌else◌}
use Rattle.std.specs.Str.{bytes_eq}
use Rattle.mach_base.specs.Answer.{◌>>=◌}
use Rattle.mach_base.specs.Fault.{Fault}
use Rattle.mach_archive.specs.Archives.{ArchiveView, archive_in}
use Rattle.mach_archive.specs.IndexSymbols.{found_by_name}
use Rattle.mach_archive.specs.MemberNames.{member_name_bytes}
use Rattle.mach_archive.specs.Members.{MemberView}
use Rattle.goblin_mach.specs.Items.{members_within}
use Rattle.goblin_mach_c.specs.ArchiveItems.{symbols_of_view}

-- the member that defines a symbol, by the index of an archive
abbrev pub found_by_symbol : ArchiveView → List ℕ → Result (Option MemberView) Fault
found_by_symbol a name = symbols_of_view a >>= found_by_name a name

-- the same for the archive in some bytes
abbrev pub member_by_symbol : List ℕ → List ℕ → Result (Option MemberView) Fault
member_by_symbol bytes name = archive_in bytes >>= (λ a. found_by_symbol a name)

-- whether a name is this one
abbrev pub has_name : List ℕ → Result (List ℕ) Fault → Bool
has_name name (Ok own) = bytes_eq own name
has_name name (Err f) = false

-- the first member of a name, or the fault before it
abbrev pub first_of_name : List ℕ → List (Result MemberView Fault) → Result (Option MemberView) Fault
first_of_name name [] = Ok None
first_of_name name (Ok m ∷ items) = if has_name name (member_name_bytes m) then Ok (Some m) else first_of_name name items
first_of_name name (Err f ∷ items) = Err f

-- the same for the archive in some bytes
abbrev pub member_by_name : List ℕ → List ℕ → Result (Option MemberView) Fault
member_by_name bytes name = archive_in bytes >>= (λ a. first_of_name name (members_within a))
