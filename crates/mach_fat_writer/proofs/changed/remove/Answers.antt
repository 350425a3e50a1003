use Rattle.std.proofs.Common.{ap}
use Rattle.std.proofs.lemmas.Result.{err_from_is_err_and}
use Rattle.mach_fat_writer.specs.Changes.{fat_form_in, of_file, others_in}
use Rattle.mach_fat_writer.specs.FatTables.{form_of}
use Rattle.mach_fat_writer.proofs.Refusals.{refused_file, refused_more, refused_then}
use Rattle.mach_fat_writer.proofs.changed.remove.Goals as goal

pub returns-in_err-form-clause-refused : goal.returns-in_err-form-clause-refused
returns-in_err-form-clause-refused g c =
    let p = err_from_is_err_and c.from_residual.result c.from_residual.ensures.1 in
    rw (p.1, p.2) (refused_more (λ form. of_file 0 (others_in c.args.bytes.now c.args.index form)) c.in_err-form.field-0.0
    (of_file 0 (fat_form_in c.args.bytes.now)) c.in_err-form.ensures.refused)

pub returns-in-Err-clause-refused : goal.returns-in-Err-clause-refused
returns-in-Err-clause-refused g c =
    let form = form_of c.in_ok-form.form in
    refused_then (λ x. of_file 0 (others_in c.args.bytes.now c.args.index x)) (record { file = 0; why = c.in-Err.why })
    (of_file 0 (fat_form_in c.args.bytes.now)) form (ap (of_file 0) c.in_ok-form.ensures.form)
    (refused_file 0 c.in-Err.why (others_in c.args.bytes.now c.args.index form) c.in-Err.ensures)
