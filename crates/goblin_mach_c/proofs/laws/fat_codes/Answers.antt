use Rattle.goblin_mach_c.proofs.FatCodes.{cut_codes, whole_codes}
use Rattle.goblin_mach_c.proofs.laws.fat_codes.Goals as goal

pub returns-clause-whole : goal.returns-clause-whole
returns-clause-whole c = whole_codes

pub returns-clause-cut : goal.returns-clause-cut
returns-clause-cut c = cut_codes
