use Rattle.mach_fat_writer.proofs.Set.{Setting}
use Rattle.mach_fat_writer.proofs.into.set_contents.Given as goal

abbrev pub invariant-loop-entry : goal.invariant-loop-entry
invariant-loop-entry g l = Setting g.R.FatRecord.form l.entries l.from l.fn.out l.end l.entry-index l.out
