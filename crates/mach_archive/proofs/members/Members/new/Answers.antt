use Rattle.std.proofs.Common.{◌-◌, length, arith}
use Rattle.mach_archive.specs.ArchiveViews.{names_view}
use Rattle.mach_archive.proofs.MembersRead.{members_are}
use Rattle.mach_archive.proofs.members.Members.new.Goals as goal

pub returns : goal.returns
returns c = members_are c.args.bytes.now (names_view c.args.names) (length c.args.bytes.now - c.args.place) c.args.place (omega arith)
