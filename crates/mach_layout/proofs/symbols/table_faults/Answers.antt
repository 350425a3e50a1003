use Rattle.std.proofs.Common.{[], ◌∷◌}
use Rattle.std.proofs.lemmas.Result.{on_ok_weaker}
use Rattle.mach_layout.specs.Laid.{laid_of}
use Rattle.mach_layout.specs.Symbols.{symbols_reported, symbol_range_faults, symbol_kind_faults, symbol_library_faults, indirect_faults, symbol_order_faults}
use Rattle.mach_layout.specs.declared.fault.Rule.TheVariants as rule
use Rattle.mach_layout.proofs.Joined.{six_reported}
use Rattle.mach_layout.proofs.symbols.table_faults.Goals as goal

pub returns-clause-reported : goal.returns-clause-reported
returns-clause-reported g c =
    let laid = laid_of c.args.layout.now in
    on_ok_weaker c.symbol_order_faults.result
    (λ last. six_reported (symbols_reported laid c.args.table (rule.SymbolSection ∷ rule.SymbolName ∷ [])) (symbol_range_faults c.args.table c.args.dynamic)
    (symbol_kind_faults laid c.args.table c.args.dynamic) (symbol_library_faults laid c.args.table) (indirect_faults laid c.args.table c.args.dynamic)
    (symbol_order_faults c.args.table c.args.dynamic) c.args.faults.now.items c.report_symbols.new.faults.items c.symbol_range_faults.new.faults.items
    c.symbol_kind_faults.new.faults.items c.symbol_library_faults.new.faults.items c.indirect_faults.new.faults.items c.in_ok-report_symbols.ensures.reported
    c.in_ok-symbol_range_faults.ensures.reported c.in_ok-symbol_kind_faults.ensures.reported c.in_ok-symbol_library_faults.ensures.reported
    c.in_ok-indirect_faults.ensures.reported last)
    c.symbol_order_faults.ensures.reported
