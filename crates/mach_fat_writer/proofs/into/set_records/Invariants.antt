use Rattle.mach_fat_writer.proofs.Set.{Recording}
use Rattle.mach_fat_writer.proofs.into.set_records.Given as goal

abbrev pub invariant-loop-entry : goal.invariant-loop-entry
invariant-loop-entry g l = Recording g.R.FatRecord.form g.R.Record.SIZE l.entries l.fn.at l.from l.fn.out l.at l.end l.entry-index l.out
