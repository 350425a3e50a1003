use Rattle.mach_archive.proofs.ArchiveLaws.{archive_begins, at_its_place}
use Rattle.mach_archive.proofs.laws.members_are_at_their_places.Goals as goal

pub returns-clause-begin : goal.returns-clause-begin
returns-clause-begin c = archive_begins

pub returns-clause-found : goal.returns-clause-found
returns-clause-found c = at_its_place
