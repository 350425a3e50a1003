use Rattle.goblin_mach_c.proofs.ArchiveListed.{first_member_named}
use Rattle.goblin_mach_c.proofs.archive_find.gmr_archive_member_named.Goals as goal

pub returns-in-Ok-clause-name : goal.returns-in-Ok-clause-name
returns-in-Ok-clause-name c = first_member_named c.args.bytes.now c.args.name.now
