use Rattle.std.proofs.Common.{refl}
use Rattle.goblin_mach_c.specs.FixupsAfter.{fixup_rows_left}
use Rattle.goblin_mach_c.specs.RebasesAfter.{opcodes_left_by}
use Rattle.goblin_mach_c.proofs.rebases.RebaseRows.following.Goals as goal

pub returns-clause-items : goal.returns-clause-items
returns-clause-items c = record {
  by_opcodes = opcodes_left_by c.opcodes_after.result;
  fixups = fixup_rows_left c.following.result;
  opcodes = c.opcodes_after.ensures.items;
  chains = c.following.ensures.items;
  are = refl;
}

pub returns-clause-over : goal.returns-clause-over
returns-clause-over c = record { opcodes = c.opcodes_after.ensures.over; fixups = c.following.ensures.over }
