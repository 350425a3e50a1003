-- The heading above the symbols of an entry of a fat file, as `llvm-nm` has it.
use Rattle.std.specs.Prelude.{ℕ, List, [], ◌++◌, codes, Option, Some, None}
use Rattle.mach_archive.specs.MemberNames.{member_name}
use Rattle.mach_archive.specs.Members.{MemberView}
use Rattle.goblin_mach.specs.declared.item.EntryCpu.{EntryCpu}
use Rattle.mach_cli.specs.Cpus.{cpu_words, entry_cpu_name}
use Rattle.mach_cli.specs.declared.cpu.Cpu.TheVariants.{Number}
use Rattle.mach_cli.specs.Escapes.{escaped_text}
use Rattle.mach_cli.specs.Labels.{LabelView, name_on_line, of_entry, of_member, unlabelled}

-- a name, or the number of a cpu that has none
abbrev pub name_or_number : (name : Option (List ℕ)) → (cputype : ℕ) → List ℕ
name_or_number (Some name) cputype = name
name_or_number None cputype = cpu_words (Number cputype)

-- the cpu of an entry, by its record
abbrev pub nm_cpu : Option EntryCpu → List ℕ
nm_cpu (Some cpu) = name_or_number (entry_cpu_name (Some cpu)) cpu.cputype
nm_cpu None = codes "unknown"

-- what follows the name of the file: which cpu the entry is for
abbrev pub nm_end : Option EntryCpu → List ℕ
nm_end cpu = codes " (for architecture " ++ (nm_cpu cpu ++ codes "):\n")

abbrev pub nm_member : MemberView → List ℕ
nm_member m = codes "(" ++ (name_on_line (member_name m) m.offset ++ codes ")")

-- An empty line, and a line with the names of the file and of the member, if it is one, and the cpu. A file that is one image has
-- no heading.
abbrev pub nm_heading : (file : List ℕ) → LabelView → List ℕ
nm_heading file unlabelled = []
nm_heading file (of_entry i cpu) = codes "\n" ++ (escaped_text file ++ nm_end cpu)
nm_heading file (of_member i cpu m) = codes "\n" ++ (escaped_text file ++ (nm_member m ++ nm_end cpu))
