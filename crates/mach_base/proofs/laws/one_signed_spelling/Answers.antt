use Rattle.mach_base.proofs.Signed.{SpellsSigned-unique, sleb_at-SpellsSigned, SpellsSigned-from_read}
use Rattle.mach_base.proofs.laws.one_signed_spelling.Goals as goal

pub returns-clause-unique : goal.returns-clause-unique
returns-clause-unique c = SpellsSigned-unique

pub returns-clause-read : goal.returns-clause-read
returns-clause-read c = sleb_at-SpellsSigned

pub returns-clause-only : goal.returns-clause-only
returns-clause-only c = SpellsSigned-from_read
