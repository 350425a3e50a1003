use Rattle.mach_load.proofs.FrontRecords.{held_by_eighty}
use Rattle.mach_load.proofs.variant.lacking_size.Goals as goal

pub returns-then-len-ge-LONGEST_RECORD-clause-none : goal.returns-then-len-ge-LONGEST_RECORD-clause-none
returns-then-len-ge-LONGEST_RECORD-clause-none c =
    held_by_eighty c.args.len c.args.cmd c.if-len-ge-LONGEST_RECORD.true c.requires.no_thread.0 c.requires.no_thread.1
