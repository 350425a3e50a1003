-- The lines of the faults of a fat file's layout.
use Rattle.std.specs.Prelude.{ℕ, List, [], ◌∷◌, ◌++◌, codes, length, take, nat_lt, Bool, true, false, Option}
use Rattle.std.specs.Io.KnownBytes.{Appends}
use Rattle.goblin_mach.specs.File.{HasFatMagic}
use Rattle.mach_parts.specs.ArchForms.{arch_form_32, arch_form_64}
use Rattle.mach_parts.specs.FatRecords.{HasFat64Magic}
use Rattle.mach_layout.specs.Containers.{AreContainerFaults}
use Rattle.mach_layout.specs.Texts.{fault_text}
use Rattle.mach_layout.specs.declared.fault.LayoutFault.{LayoutFault}
use Rattle.mach_cli.specs.Listings.{cut_line}

-- the line of a fault
abbrev pub table_fault_line : LayoutFault → List ℕ
table_fault_line fault = fault_text fault ++ codes "\n"

-- the lines of faults, one after the other
abbrev pub fault_lines : List LayoutFault → List ℕ
fault_lines [] = []
fault_lines (fault ∷ faults) = table_fault_line fault ++ fault_lines faults

-- whether there is no fault
abbrev pub is_faultless : List LayoutFault → Bool
is_faultless [] = true
is_faultless (fault ∷ faults) = false

-- The bytes begin as a fat file, of 32 or of 64 bits, and these are the faults of its layout.
pub data HasFatFaults (bytes : List ℕ) (faults : List LayoutFault) : Type 0 where
  of_32_bits : HasFatMagic bytes → AreContainerFaults arch_form_32 bytes faults → HasFatFaults bytes faults
  of_64_bits : HasFat64Magic bytes → AreContainerFaults arch_form_64 bytes faults → HasFatFaults bytes faults

-- Its layout has these faults, and the lines of the first ones were written, no more than a limit, and a line if there are more.
pub record ReportsFatFaults (limit : ℕ) (bytes : List ℕ) (faults : List LayoutFault) (old new : Option (List ℕ)) : Type 0 where
  pub has : HasFatFaults bytes faults
  pub reported : Appends old new (fault_lines (take limit faults) ++ cut_line limit (nat_lt limit (length faults)))
