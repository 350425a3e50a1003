use Rattle.mach_base.proofs.Unsigned.{Spells-unique, uleb_at-Spells, Spells-from_read}
use Rattle.mach_base.proofs.laws.one_spelling.Goals as goal

pub returns-clause-unique : goal.returns-clause-unique
returns-clause-unique c = Spells-unique

pub returns-clause-read : goal.returns-clause-read
returns-clause-read c = uleb_at-Spells

pub returns-clause-only : goal.returns-clause-only
returns-clause-only c = Spells-from_read
