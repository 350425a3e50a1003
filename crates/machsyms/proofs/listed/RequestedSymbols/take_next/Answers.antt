use Rattle.std.proofs.Common.{◌∙◌, sym, ap}
use Rattle.std.specs.List.{filter}
use Rattle.mach_parts.specs.SymbolViews.{symbol_read}
use Rattle.machsyms.specs.Request.{takes}
use Rattle.machsyms.specs.Listed.{source_left}
use Rattle.machsyms.proofs.SelectedLists.{selected_skips, selected_takes}
use Rattle.machsyms.proofs.listed.RequestedSymbols.take_next.Goals as goal

pub symbols-preserved : goal.symbols-preserved
symbols-preserved c =
    c.symbols.invariant
    ∙ selected_skips c.symbols.self.request (source_left c.symbols.self.source) (symbol_read c.in-Some.answer) (source_left c.take_next.new.self)
    c.in-Some.ensures (sym c.takes.ensures ∙ c.if-takes.false)

pub returns-then-takes : goal.returns-then-takes
returns-then-takes c =
    c.symbols.invariant
    ∙ selected_takes c.symbols.self.request (source_left c.symbols.self.source) (symbol_read c.in-Some.answer) (source_left c.take_next.new.self)
    c.in-Some.ensures (sym c.takes.ensures ∙ c.if-takes.true)

pub returns : goal.returns
returns c =
    let none = c.in_default.ensures in
    let request = c.symbols.self.request in
    (c.symbols.invariant ∙ ap (filter (takes request)) none.0, ap (filter (takes request)) none.1)
