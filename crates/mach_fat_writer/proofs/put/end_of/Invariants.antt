use Rattle.std.proofs.Common.{◌≡◌, false}
use Rattle.std.specs.List.{list_any}
use Rattle.mach_fat_writer.specs.Entries.{entry_views}
use Rattle.mach_fat_writer.specs.FatForms.{fat_end}
use Rattle.mach_fat_writer.specs.FatWrites.{is_far_aligned, all_can_lie}
use Rattle.mach_fat_writer.proofs.Laid.{left_at}
use Rattle.mach_fat_writer.proofs.put.end_of.Given as goal

abbrev pub invariant-loop-entry : goal.invariant-loop-entry
invariant-loop-entry g l = record {
  aligned : list_any is_far_aligned (left_at l.entries l.entry-index) ≡ false;
  within : all_can_lie g.R.FatRecord.form l.end (left_at l.entries l.entry-index) ≡ all_can_lie g.R.FatRecord.form l.from (entry_views l.entries);
  ends : fat_end l.end (left_at l.entries l.entry-index) ≡ fat_end l.from (entry_views l.entries);
}
