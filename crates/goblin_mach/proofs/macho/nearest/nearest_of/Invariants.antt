use Rattle.std.proofs.Common.{◌≡◌}
use Rattle.mach_base.specs.KeptText.{kept_bytes}
use Rattle.mach_parts.specs.SymbolViews.{table_of}
use Rattle.goblin_mach.proofs.NearestRecords.{IsSoFar}
use Rattle.goblin_mach.proofs.macho.nearest.nearest_of.Given as goal

-- the best is the nearest of the symbols so far, and the names are those of the table
abbrev pub invariant-symbols : goal.invariant-symbols
invariant-symbols l = record {
  so_far : IsSoFar l.is_named (table_of l.table) l.section l.address l.index l.best;
  same_bytes : kept_bytes l.names ≡ (table_of l.table).bytes;
}
