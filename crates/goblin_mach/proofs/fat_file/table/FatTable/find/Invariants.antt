use Rattle.std.proofs.Common.{ℕ, ◌<◌, false}
use Rattle.goblin_mach.specs.FatFile.{IsSelected}
use Rattle.goblin_mach.proofs.fat_file.table.FatTable.find.Given as goal

abbrev pub invariant-entries : goal.invariant-entries
invariant-entries g l = (k : ℕ) → k < l.index → IsSelected g.R.ArchRecord.arch_form g.E.From.from_gives (goal.F-post g l.f) l.self.bytes.now k false
