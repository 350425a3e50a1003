-- The printed names of the segments and of the sections that hold addresses.
use Rattle.std.specs.Prelude.{ℕ, List, [], ◌∷◌, codes, Option, option_map, Result, Ok, Err}
use Rattle.mach_base.specs.Fault.{Fault}
use Rattle.mach_base.specs.Text.{text_at}
use Rattle.goblin_mach.specs.AllStretches.{section_with}
use Rattle.goblin_mach.specs.declared.addresses.stretches.Stretch.{Stretch}

-- a name as it is printed: `-` if it is empty or can't be read
abbrev pub shown_name : Result (List ℕ) Fault → List ℕ
shown_name (Ok []) = codes "-"
shown_name (Ok (first ∷ rest)) = first ∷ rest
shown_name (Err f) = codes "-"

-- the printed name of a segment or a section
abbrev pub stretch_name : Stretch → List ℕ
stretch_name s = shown_name (text_at s.name 0)

-- the printed name of the first section that holds an address, if one does
abbrev pub section_name_with : ℕ → List Stretch → Option (List ℕ)
section_name_with address sections = option_map stretch_name (section_with address sections)
