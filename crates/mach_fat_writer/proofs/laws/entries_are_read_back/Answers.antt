use Rattle.mach_fat_writer.specs.FatForms.{fat_form_32, fat_form_64}
use Rattle.mach_fat_writer.proofs.Forms.{holds_32, holds_64}
use Rattle.mach_fat_writer.proofs.ReadBack.{read_back}
use Rattle.mach_fat_writer.proofs.laws.entries_are_read_back.Goals as goal

pub returns-clause-of_32 : goal.returns-clause-of_32
returns-clause-of_32 c = read_back fat_form_32 holds_32

pub returns-clause-of_64 : goal.returns-clause-of_64
returns-clause-of_64 c = read_back fat_form_64 holds_64
