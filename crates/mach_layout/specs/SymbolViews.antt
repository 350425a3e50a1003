-- The checks of symbols, as contracts see them.
use Rattle.std.specs.Prelude.{ℕ}
use Rattle.mach_layout.specs.Rules.{owner_at}
use Rattle.mach_layout.specs.Symbols.{symbol_sees_at, range_sees, indirect_sees, indirect_section_sees}
use Rattle.mach_layout.specs.Symbols as defined
use Rattle.mach_layout.specs.declared.fault.Owner.{Owner}
use Rattle.mach_layout.specs.declared.fault.Part.TheVariants as part
use Rattle.mach_layout.specs.declared.fault.Rule.{Rule}
use Rattle.mach_layout.specs.declared.placed_sections.PlacedSection.{PlacedSection}
use Rattle.mach_layout.specs.declared.rules.RuleOutcome.{RuleOutcome}
use Rattle.mach_layout.specs.declared.symbols.SymbolRange.{SymbolRange}
use Rattle.mach_layout.specs.declared.symbols.SymbolsJudged.{SymbolsJudged}
use Rattle.mach_layout.specs.declared.symbols.indirect.Indirect.{Indirect}
use Rattle.mach_layout.specs.declared.symbols.indirect.Ranges.{Ranges}

-- a symbol of a table
abbrev pub symbols_judged : SymbolsJudged → Rule → ℕ → RuleOutcome
symbols_judged j = symbol_sees_at j.ctx j.bytes.now j.table j.bounds

-- a range of symbols
abbrev pub range_owner : Ranges → Rule → SymbolRange → Owner
range_owner j rule r = owner_at part.SymbolRanges j.place r.number

abbrev pub ranges_judged : Ranges → Rule → SymbolRange → RuleOutcome
ranges_judged j rule = range_sees j.nsyms

-- an indirect symbol, and a section that has some
abbrev pub owner_of_indirect : Indirect → Rule → ℕ → Owner
owner_of_indirect j rule = defined.indirect_owner j.table

abbrev pub indirect_judged : Indirect → Rule → ℕ → RuleOutcome
indirect_judged j rule = indirect_sees j.ctx.le j.bytes.now j.table j.nsyms

abbrev pub indirect_sections_judged : Indirect → Rule → PlacedSection → RuleOutcome
indirect_sections_judged j rule = indirect_section_sees j.ctx.container j.table
