use Rattle.std.proofs.lemmas.Result.{err_from_is_err_and}
use Rattle.mach_base.proofs.Faults.{ErrorMeets-in, ErrorMeets-failed}
use Rattle.goblin_mach.specs.FatFile.{arches_in, file_view}
use Rattle.goblin_mach.specs.View.{ViewFault, of_file, of_table}
use Rattle.mach_cli.proofs.Showing.{fat_input}
use Rattle.mach_cli.proofs.document.open.Goals as goal

pub returns-in_err-file-clause-refused : goal.returns-in_err-file-clause-refused
returns-in_err-file-clause-refused c =
    let p = err_from_is_err_and c.from_residual.result c.from_residual.ensures.1 in
    rw (p.1, p.2) (ErrorMeets-in _ (ViewFault c.args.bytes.now) c.in_err-file.field-0.0 of_file c.in_err-file.ensures.refused)

pub returns-in_err-records-in-Fat-clause-refused : goal.returns-in_err-records-in-Fat-clause-refused
returns-in_err-records-in-Fat-clause-refused c =
    let container = c.in-Fat.container in
    let file = file_view container in
    let fat = rw c.in-Fat.is at c.in_ok-file.ensures.opened in
    let p = err_from_is_err_and c.from_residual-in_err-records-in-Fat.result c.from_residual-in_err-records-in-Fat.ensures.1 in
    rw (p.1, p.2) (ErrorMeets-failed (ViewFault c.args.bytes.now) c.in_err-records-in-Fat.field-0.0 (arches_in file)
    (λ f bad. of_table file f fat.magic fat.file bad) c.in_err-records-in-Fat.ensures)

pub returns-in_ok-records-in-Fat-clause-held : goal.returns-in_ok-records-in-Fat-clause-held
returns-in_ok-records-in-Fat-clause-held c =
    let bytes = c.args.bytes.now in
    let container = c.in-Fat.container in
    let fat = rw c.in-Fat.is at c.in_ok-file.ensures.opened in (
      file_view container,
      record { magic = fat.magic; is_file = fat.file; table = c.in_ok-records-in-Fat.ensures },
      c.images-images.ensures bytes (fat_input bytes container fat),
    )
