use Rattle.goblin_mach_c.proofs.ArchiveListed.{members_named}
use Rattle.goblin_mach_c.proofs.archive.gmr_archive_members.Goals as goal

pub returns-in-Ok-clause-names : goal.returns-in-Ok-clause-names
returns-in-Ok-clause-names c = members_named c.args.bytes.now

pub returns-in-Err-clause-names : goal.returns-in-Err-clause-names
returns-in-Err-clause-names c = members_named c.args.bytes.now
