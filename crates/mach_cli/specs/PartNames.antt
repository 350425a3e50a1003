-- The name of a part of a file.
use Rattle.std.specs.Prelude.{ℕ, List, [], ◌++◌, codes, Option, Some, None, Result, Ok, Err}
use Rattle.std.specs.Fmt.{decimal}
use Rattle.mach_base.specs.Fault.{Fault}
use Rattle.mach_archive.specs.MemberNames.{member_name}
use Rattle.mach_archive.specs.Members.{MemberView}
use Rattle.goblin_mach.specs.Items.{ContentView, archive_member, no_member, whole_file}

-- the entry of a fat file that holds it
abbrev pub entry_label : Option ℕ → List ℕ
entry_label (Some i) = codes ": arch " ++ decimal i
entry_label None = []

-- the name of a member, or the offset of its header
abbrev pub name_or_place : Result (List ℕ) Fault → ℕ → List ℕ
name_or_place (Ok name) place = name
name_or_place (Err f) place = codes "at " ++ decimal place

abbrev pub member_called : MemberView → List ℕ
member_called m = name_or_place (member_name m) m.offset

abbrev pub within_text : ContentView → List ℕ
within_text (whole_file bytes) = []
within_text (archive_member m) = codes "(" ++ (member_called m ++ codes ")")
within_text no_member = []

abbrev pub part_name : (file : List ℕ) → Option ℕ → ContentView → List ℕ
part_name file entry content = file ++ (entry_label entry ++ within_text content)
