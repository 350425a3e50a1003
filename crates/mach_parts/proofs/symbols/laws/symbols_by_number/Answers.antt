use Rattle.mach_parts.specs.Symbols.{symbol_at}
use Rattle.mach_base.proofs.ItemLists.{length-items_from, slice_get-items}
use Rattle.mach_parts.proofs.symbols.laws.symbols_by_number.Goals as goal

pub returns-clause-count : goal.returns-clause-count
returns-clause-count c = λ t. length-items_from (symbol_at t) 0 t.nsyms

pub returns-clause-item : goal.returns-clause-item
returns-clause-item c = λ t k inside. slice_get-items (symbol_at t) t.nsyms k inside
