use Rattle.goblin_mach_c.proofs.ArchiveListed.{symbols_member_named}
use Rattle.goblin_mach_c.proofs.archive_find.gmr_archive_find.Goals as goal

pub returns-in_default-clause-name : goal.returns-in_default-clause-name
returns-in_default-clause-name c = symbols_member_named c.args.bytes.now c.args.symbol.now

pub returns-in-Ok-member_of_symbol-clause-name : goal.returns-in-Ok-member_of_symbol-clause-name
returns-in-Ok-member_of_symbol-clause-name c = symbols_member_named c.args.bytes.now c.args.symbol.now
