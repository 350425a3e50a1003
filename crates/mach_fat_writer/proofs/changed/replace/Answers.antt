use Rattle.std.proofs.Common.{ap, subst}
use Rattle.std.proofs.lemmas.Result.{err_from_is_err_and}
use Rattle.mach_fat_writer.specs.Changes.{fat_form_in, of_file, replaced_in}
use Rattle.mach_fat_writer.specs.Creates.{IsFileInOrder, RefusesInOrder}
use Rattle.mach_fat_writer.specs.FatTables.{form_of}
use Rattle.mach_fat_writer.proofs.Replaced.{refused_order}
use Rattle.mach_fat_writer.proofs.Refusals.{refused_more, refused_then}
use Rattle.mach_fat_writer.proofs.changed.replace.Goals as goal

pub returns-in_err-form-clause-refused : goal.returns-in_err-form-clause-refused
returns-in_err-form-clause-refused g c =
    let p = err_from_is_err_and c.from_residual.result c.from_residual.ensures.1 in
    rw (p.1, p.2) (refused_more (replaced_in c.args.bytes.now c.args.new.now) c.in_err-form.field-0.0 (of_file 0 (fat_form_in c.args.bytes.now))
    c.in_err-form.ensures.refused)

pub returns-in_err-entries-clause-refused : goal.returns-in_err-entries-clause-refused
returns-in_err-entries-clause-refused g c =
    let p = err_from_is_err_and c.from_residual-in_err-entries.result c.from_residual-in_err-entries.ensures.1 in
    rw (p.1, p.2) (refused_then (replaced_in c.args.bytes.now c.args.new.now) c.in_err-entries.field-0.0 (of_file 0 (fat_form_in c.args.bytes.now))
    (form_of c.in_ok-form.form) (ap (of_file 0) c.in_ok-form.ensures.form) c.in_err-entries.ensures.refused)

pub returns-in_err-file-clause-refused : goal.returns-in_err-file-clause-refused
returns-in_err-file-clause-refused g c =
    let p = err_from_is_err_and c.from_residual-in_err-file.result c.from_residual-in_err-file.ensures.1 in
    rw (p.1, p.2) (refused_order c.args.bytes.now c.args.new.now (form_of c.in_ok-form.form) c.in_ok-entries.entries.items c.in_err-file.field-0.0
    c.in_ok-form.ensures.form c.in_ok-entries.ensures.entries
    (subst (λ es. RefusesInOrder (form_of c.in_ok-form.form) es c.in_err-file.field-0.0) c.as_mut_slice.ensures.value c.in_err-file.ensures.refused))

pub returns-clause-replaced : goal.returns-clause-replaced
returns-clause-replaced g c =
    record {
      form = form_of c.in_ok-form.form;
      is_form = c.in_ok-form.ensures.form;
      is_file = record {
        given = c.in_ok-entries.entries.items;
        are_entries = c.in_ok-entries.ensures.entries;
        is_file =
            subst (λ es. IsFileInOrder (form_of c.in_ok-form.form) es c.in_ok-file.file.items) c.as_mut_slice.ensures.value c.in_ok-file.ensures.written;
      };
    }
