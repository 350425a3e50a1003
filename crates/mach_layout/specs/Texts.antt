-- A fault of layout in words.
use Rattle.std.specs.Prelude.{ℕ, List, ◌++◌, ◌||◌, Bool, true, false, codes, nat_lt, Option, Some, None, if◌then◌else◌}
use Rattle.std.specs.Fmt.{decimal, digits}
use Rattle.mach_layout.specs.Words.{rule_words, part_words}
use Rattle.mach_layout.specs.declared.fault.LayoutFault.{LayoutFault}
use Rattle.mach_layout.specs.declared.fault.Owner.{Owner}
use Rattle.mach_layout.specs.declared.fault.Part.{Part}
use Rattle.mach_layout.specs.declared.fault.Part.TheVariants as part

-- parts of which there are several, which have numbers
abbrev pub has_number : Part → Bool
has_number part.Section = true
has_number part.Relocations = true
has_number part.Slice = true
has_number part.Imports = true
has_number part.SymbolRanges = true
has_number other = false

-- an owner: its part, its number if it has one, and the place of its command
abbrev pub owner_text : Owner → List ℕ
owner_text o =
    if nat_lt 0 o.index || has_number o.part
    then part_words o.part ++ codes " " ++ decimal o.index ++ codes " at 0x" ++ digits 16 false o.command
    else part_words o.part ++ codes " at 0x" ++ digits 16 false o.command

-- the two numbers that are the evidence for a fault
abbrev pub numbers_text : LayoutFault → List ℕ
numbers_text f = codes "0x" ++ digits 16 false f.found ++ codes " against 0x" ++ digits 16 false f.limit

-- the same, with the other owner, if there is one
abbrev pub evidence_by : List ℕ → Option Owner → List ℕ
evidence_by numbers (Some other) = numbers ++ codes " of " ++ owner_text other
evidence_by numbers None = numbers

abbrev pub evidence_text : LayoutFault → List ℕ
evidence_text f = evidence_by (numbers_text f) f.other

-- a fault: its rule, its owner, and the evidence
abbrev pub fault_text : LayoutFault → List ℕ
fault_text f = rule_words f.rule ++ codes ": " ++ owner_text f.owner ++ codes ": " ++ evidence_text f
