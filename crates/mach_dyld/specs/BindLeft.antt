-- The rules of imports, and what is left of an iterator over them. Callers don't need it: the contract of `iter` says that
-- the items at the start are those of the definitions.
use Rattle.std.specs.Prelude.{ℕ, List, Result}
use Rattle.mach_base.specs.Fault.{Fault, fault_of}
use Rattle.mach_base.specs.declared.error.Error.{Error}
use Rattle.mach_dyld.specs.Instructions.{instruction_at}
use Rattle.mach_dyld.specs.Imports.{Target, import_of}
use Rattle.mach_dyld.specs.Imports as imports
use Rattle.mach_dyld.specs.BindViews.{bind_import_view}
use Rattle.mach_dyld.specs.Machine.{Rules, items_left, opcodes_left, item_read}
pub use Rattle.mach_dyld.specs.Machine.{State, fresh, moved, start_of, input_of, bind_of, state_of, items_of, executed, executed_by, set_by}
use Rattle.mach_dyld.specs.declared.imports.source.BindTarget.{BindTarget}
use Rattle.mach_dyld.specs.declared.imports.Import.{Import}
use Rattle.mach_dyld.specs.declared.imports.iterator.BindIterator.{BindIterator}
use Rattle.mach_dyld.specs.declared.imports.iterator.ImportSettings.{ImportSettings}

-- all opcodes are read, and a bind needs nothing beyond its settings
abbrev pub import_rules : Rules ImportSettings imports.Import
import_rules = record {
  first = λ is_lazy. record {};
  set = λ byte m. m;
  read = λ r. instruction_at;
  makes = λ x b m. import_of x b;
}

abbrev pub target_in : BindTarget → Target
target_in t = record { dylib = t.dylib.now; offset = t.offset; address = t.address }

abbrev pub import_read : Result Import Error → Result imports.Import Fault
import_read = item_read bind_import_view fault_of

-- the imports that are left, up to the first fault
abbrev pub imports_left : BindIterator → List (Result imports.Import Fault)
imports_left it = items_left import_rules it.stream

-- the number of instructions left to read
abbrev pub reads_left : BindIterator → ℕ
reads_left it = opcodes_left import_rules it.stream
