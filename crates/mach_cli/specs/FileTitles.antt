-- The title of a file, and the status if it can't be read.
use Rattle.std.specs.Prelude.{◌≡◌, ℕ, List, [], ◌++◌, codes, Bool, if◌then◌else◌, ◌⊎◌}
use Rattle.mach_cli.specs.Escapes.{escaped_text}
use Rattle.mach_cli.specs.Labels.{LabelView, label_cpu, of_entry, of_member, unlabelled}
use Rattle.mach_cli.specs.NmHeadings.{nm_heading}

-- the lines above the output of a file or of a part: its name, and the name of the cpu of the entry that the part is
abbrev pub name_title : (name : List ℕ) → LabelView → List ℕ
name_title name label = codes "\n" ++ (escaped_text name ++ (label_cpu label ++ codes ":\n"))

-- the same with the headings of `llvm-nm` for entries of the file
abbrev pub nm_title : (file name : List ℕ) → LabelView → List ℕ
nm_title file name unlabelled = name_title name unlabelled
nm_title file name (of_entry i cpu) = nm_heading file (of_entry i cpu)
nm_title file name (of_member i cpu m) = nm_heading file (of_member i cpu m)

abbrev pub title_words : (is_nm : Bool) → (file name : List ℕ) → LabelView → List ℕ
title_words is_nm file name label = if is_nm then nm_title file name label else name_title name label

-- the title, if there is one
abbrev pub title_text : (is_titled is_nm : Bool) → (file name : List ℕ) → LabelView → List ℕ
title_text is_titled is_nm file name label = if is_titled then title_words is_nm file name label else []

-- the status if a file can't be read: 1 if memory ran out, else 2
abbrev pub IsUnreadStatus : ℕ → Type 0
IsUnreadStatus status = (status ≡ 1) ⊎ (status ≡ 2)
