use Rattle.mach_fat_writer.specs.Changes.{fat_form_in}
use Rattle.mach_fat_writer.proofs.Refusals.{refused_file}
use Rattle.mach_fat_writer.proofs.changed.fat_form.Goals as goal

pub returns-in-Err-clause-refused : goal.returns-in-Err-clause-refused
returns-in-Err-clause-refused c = refused_file 0 c.in-Err.why (fat_form_in c.args.bytes.now) c.in-Err.ensures
