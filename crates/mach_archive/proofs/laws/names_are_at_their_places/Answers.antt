use Rattle.mach_archive.proofs.ArchiveLaws.{listed_name, single_name, symbol_name}
use Rattle.mach_archive.proofs.laws.names_are_at_their_places.Goals as goal

pub returns-clause-members : goal.returns-clause-members
returns-clause-members c bytes a from items m opened = listed_name bytes a opened from items m

pub returns-clause-member : goal.returns-clause-member
returns-clause-member c bytes a place m opened = single_name bytes a opened place m

pub returns-clause-symbols : goal.returns-clause-symbols
returns-clause-symbols c bytes a t items s opened = symbol_name bytes a opened t 0 items s
