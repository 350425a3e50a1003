-- The checks of chained fixups, as contracts see them.
use Rattle.std.specs.Prelude.{ℕ}
use Rattle.mach_layout.specs.Fixups.{Data, import_owner, import_sees, row_in}
use Rattle.mach_layout.specs.Rules.{sees_there}
use Rattle.mach_layout.specs.declared.fault.Owner.{Owner}
use Rattle.mach_layout.specs.declared.fault.Rule.{Rule}
use Rattle.mach_layout.specs.declared.fixups.FixupData.{FixupData}
use Rattle.mach_layout.specs.declared.fixups.imports.Imports.{Imports}
use Rattle.mach_layout.specs.declared.rules.RuleOutcome.{RuleOutcome}

abbrev pub data_view : FixupData → Data
data_view d = record { place = d.place; payload = d.payload.now; le = d.le }

-- import k
abbrev pub imports_owner : Imports → Rule → ℕ → Owner
imports_owner j rule = import_owner (data_view j.chained)

abbrev pub imports_judged : Imports → Rule → ℕ → RuleOutcome
imports_judged j rule k = sees_there (row_in (data_view j.chained) j.header k) (import_sees (data_view j.chained) j.header j.libraries j.names_end rule)
