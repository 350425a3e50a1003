-- Indirect symbols: numbers that say to which symbol a pointer or a stub refers
-- (`mach-o/loader.h`, struct dysymtab_command, INDIRECT_SYMBOL_LOCAL and INDIRECT_SYMBOL_ABS).
use Rattle.std.specs.Prelude.{◌==◌, ℕ, ◌+◌, ◌*◌, List, length, min, Result, Ok, if◌then◌else◌}
use Rattle.mach_base.specs.declared.context.Endian.{Endian}
use Rattle.mach_base.specs.Answer.{◌>>=◌}
use Rattle.mach_base.specs.Fault.{Fault}
use Rattle.mach_base.specs.Items.{items_from, records_in_bounds}
use Rattle.mach_base.specs.Number.{number_at}
use Rattle.mach_parts.specs.declared.indirect.IndirectSymbol.{IndirectSymbol}
use Rattle.mach_parts.specs.declared.indirect.IndirectSymbol.TheVariants.{Symbol, Local, Absolute, LocalAbsolute}

-- the decoded number of an entry: a number with other bits than these two is the number of a symbol
abbrev pub indirect_symbol : ℕ → IndirectSymbol
indirect_symbol n =
    if n == 0x8000_0000 then Local
    else (if n == 0x4000_0000 then Absolute
    else (if n == 0xc000_0000 then LocalAbsolute
    else Symbol n))

-- A table of them: `count` entries of four bytes at a place.
pub record IndirectTable : Type 0 where
  pub bytes : List ℕ
  pub start : ℕ
  pub count : ℕ
  pub le : Endian

-- the decoded entry k, or the reason why there is none
abbrev pub indirect_symbol_at : IndirectTable → ℕ → Result IndirectSymbol Fault
indirect_symbol_at t k = number_at t.le 4 t.bytes (t.start + 4 * k) >>= (λ n. Ok (indirect_symbol n))

-- all entries of a table
abbrev pub indirect_symbols_of : IndirectTable → List (Result IndirectSymbol Fault)
indirect_symbols_of t = items_from (indirect_symbol_at t) 0 t.count

-- The table of the entries that begin within the bytes. No byte of any later entry can be read.
abbrev pub indirect_in_bounds : IndirectTable → IndirectTable
indirect_in_bounds t =
    record { bytes = t.bytes; start = t.start; count = min t.count (records_in_bounds (length t.bytes) t.start 4); le = t.le }
