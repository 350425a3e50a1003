-- The label of an image within a file.
use Rattle.std.specs.Prelude.{ℕ, List, [], ◌++◌, codes, Option, Some, None, Result, Ok, Err}
use Rattle.std.specs.Fmt.{decimal}
use Rattle.mach_base.specs.Fault.{Fault}
use Rattle.mach_archive.specs.ArchiveViews.{member_view}
use Rattle.mach_archive.specs.MemberNames.{member_name}
use Rattle.mach_archive.specs.Members.{MemberView}
use Rattle.goblin_mach.specs.Items.{ContentView, archive_member, no_member, whole_file}
use Rattle.goblin_mach.specs.declared.item.EntryCpu.{EntryCpu}
use Rattle.goblin_mach.specs.declared.item.ItemPlace.{ItemPlace}
use Rattle.mach_cli.specs.Cpus.{entry_cpu_name}
use Rattle.mach_cli.specs.Escapes.{escaped_text}
use Rattle.mach_cli.specs.JsonText.{json_string}
use Rattle.mach_cli.specs.declared.label.Label.{Label}
use Rattle.mach_cli.specs.declared.label.Label.TheVariants as labels

-- none, if it is the whole file; the index of its entry in a fat file, and the cpu by its record, if that can be read; or these, and
-- which member of an archive it is
pub data LabelView : Type 0 where
  unlabelled : LabelView
  of_entry : (i : ℕ) → (cpu : Option EntryCpu) → LabelView
  of_member : (i : ℕ) → (cpu : Option EntryCpu) → (m : MemberView) → LabelView

abbrev pub label_view : Label → LabelView
label_view labels.None = unlabelled
label_view (labels.Entry i cpu) = of_entry i cpu
label_view (labels.Member i cpu m) = of_member i cpu (member_view m)

abbrev pub label_in : ℕ → (cpu : Option EntryCpu) → Result ContentView Fault → LabelView
label_in i cpu (Ok (archive_member m)) = of_member i cpu m
label_in i cpu (Ok (whole_file bytes)) = of_entry i cpu
label_in i cpu (Ok no_member) = of_entry i cpu
label_in i cpu (Err f) = of_entry i cpu

abbrev pub label_at : Option ℕ → (cpu : Option EntryCpu) → Result ContentView Fault → LabelView
label_at (Some i) cpu content = label_in i cpu content
label_at None cpu content = unlabelled

-- the label of an item
abbrev pub label_of : ItemPlace → Result ContentView Fault → LabelView
label_of place content = label_at place.entry place.cpu content

-- a member's name on one line, or the offset of its header
abbrev pub name_on_line : Result (List ℕ) Fault → ℕ → List ℕ
name_on_line (Ok name) place = escaped_text name
name_on_line (Err f) place = codes "at " ++ decimal place

abbrev pub arch_text : ℕ → List ℕ
arch_text i = codes "arch " ++ decimal i

abbrev pub member_text : ℕ → MemberView → List ℕ
member_text i m = arch_text i ++ (codes "(" ++ (name_on_line (member_name m) m.offset ++ codes ")"))

abbrev pub cpu_suffix : Option (List ℕ) → List ℕ
cpu_suffix None = []
cpu_suffix (Some name) = codes " (" ++ (name ++ codes ")")

-- the line above the output of an image
abbrev pub label_line : LabelView → List ℕ
label_line unlabelled = []
label_line (of_entry i cpu) = arch_text i ++ (cpu_suffix (entry_cpu_name cpu) ++ codes "\n")
label_line (of_member i cpu m) = member_text i m ++ (cpu_suffix (entry_cpu_name cpu) ++ codes "\n")

-- the name of the cpu of its entry, beside another name
abbrev pub label_cpu : LabelView → List ℕ
label_cpu unlabelled = []
label_cpu (of_entry i cpu) = cpu_suffix (entry_cpu_name cpu)
label_cpu (of_member i cpu m) = cpu_suffix (entry_cpu_name cpu)

-- the same after the name of a file, in a complaint
abbrev pub label_suffix : LabelView → List ℕ
label_suffix unlabelled = []
label_suffix (of_entry i cpu) = codes ": " ++ arch_text i
label_suffix (of_member i cpu m) = codes ": " ++ member_text i m

-- a member's name as a string, or the offset of its header
abbrev pub name_string : Result (List ℕ) Fault → ℕ → List ℕ
name_string (Ok name) place = json_string name
name_string (Err f) place = codes "\"at " ++ (decimal place ++ codes "\"")

abbrev pub cpu_string : Option (List ℕ) → List ℕ
cpu_string None = codes "null"
cpu_string (Some name) = codes "\"" ++ (name ++ codes "\"")

abbrev pub entry_members : ℕ → (cpu : Option EntryCpu) → List ℕ
entry_members i cpu = codes "\"arch\":" ++ (cpu_string (entry_cpu_name cpu) ++ (codes ",\"entry\":" ++ (decimal i ++ codes ",")))

-- the start of an image's object
abbrev pub object_front : LabelView → List ℕ
object_front unlabelled = codes "{"
object_front (of_entry i cpu) = codes "{" ++ entry_members i cpu
object_front (of_member i cpu m) = codes "{" ++ (entry_members i cpu ++ (codes "\"member\":" ++ (name_string (member_name m) m.offset ++ codes ",")))
