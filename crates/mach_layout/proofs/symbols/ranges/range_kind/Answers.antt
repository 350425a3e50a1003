use Rattle.std.proofs.Common.{ℕ, ◌+◌, ◌∙◌, sym}
use Rattle.mach_layout.specs.Symbols.{if_there, symbol_in, symbol_kind_fault}
use Rattle.mach_layout.proofs.Numbers.{first_here, first_later}
use Rattle.mach_layout.proofs.symbols.ranges.range_kind.Goals as goal

pub returns-in-Some : goal.returns-in-Some
returns-in-Some c =
    let layout = c.args.layout.now in
    let report =
    λ (k : ℕ). if_there (symbol_in layout.ctx layout.bytes.now c.args.table.now k) (symbol_kind_fault c.args.table.now c.args.range.now.number k) in
    first_here report c.symbols.k (c.args.range.now.first + c.min.result) _ c.symbols-test.true (sym c.symbol_kind.ensures ∙ c.in-Some.is)
    ∙ c.symbols.invariant

pub symbols-preserved : goal.symbols-preserved
symbols-preserved c =
    let layout = c.args.layout.now in
    let report =
    λ (k : ℕ). if_there (symbol_in layout.ctx layout.bytes.now c.args.table.now k) (symbol_kind_fault c.args.table.now c.args.range.now.number k) in
    first_later report c.symbols.k (c.args.range.now.first + c.min.result) c.symbols-test.true (sym c.symbol_kind.ensures ∙ c.in_default.is)
    ∙ c.symbols.invariant
