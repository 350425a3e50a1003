use Rattle.std.proofs.Common.{◌≡◌, ◌-◌, ℕ}
use Rattle.mach_layout.specs.Laid.{laid_of}
use Rattle.mach_layout.specs.Symbols.{first_reported, if_there, range_len, symbol_in, symbol_kind_fault, symbols_there}
use Rattle.mach_layout.proofs.symbols.ranges.range_kind.Given as goal

abbrev pub invariant-symbols : goal.invariant-symbols
invariant-symbols l =
    first_reported (λ (k : ℕ). if_there (symbol_in l.layout.ctx l.layout.bytes.now l.table k) (symbol_kind_fault l.table l.range.number k)) l.k (l.end - l.k)
    ≡ first_reported (λ (k : ℕ). if_there (symbol_in l.layout.ctx l.layout.bytes.now l.table k) (symbol_kind_fault l.table l.range.number k)) l.range.first
    (range_len (symbols_there (laid_of l.layout) l.table) l.range)
