use Rattle.std.proofs.Common.{◌≡◌, ◌++◌, false, true}
use Rattle.std.specs.List.{list_any}
use Rattle.mach_fat_writer.specs.Entries.{entry_views}
use Rattle.mach_fat_writer.specs.FatForms.{fat_records}
use Rattle.mach_fat_writer.specs.FatWrites.{is_far_aligned, all_can_lie}
use Rattle.mach_fat_writer.proofs.Laid.{left_at}
use Rattle.mach_fat_writer.proofs.put.put_records.Given as goal

abbrev pub invariant-loop-entry : goal.invariant-loop-entry
invariant-loop-entry g l = record {
  aligned : list_any is_far_aligned (left_at l.entries l.entry-index) ≡ false;
  within : all_can_lie g.R.FatRecord.form l.end (left_at l.entries l.entry-index) ≡ true;
  written : l.out.items ++ fat_records g.R.FatRecord.form l.end (left_at l.entries l.entry-index)
      ≡ l.fn.out.items ++ fat_records g.R.FatRecord.form l.from (entry_views l.entries);
}
