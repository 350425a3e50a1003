use Rattle.std.proofs.Common.{subst, sym}
use Rattle.mach_base.proofs.Faults.{ErrorMeets-in}
use Rattle.goblin_mach.specs.OpenImage.{commands_view}
use Rattle.goblin_mach.specs.View.{of_file}
use Rattle.machfat.specs.Refusals.{FatFault, RefusesFaults, in_view}
use Rattle.machfat.proofs.Reported.{refuses_faults}
use Rattle.machfat.proofs.verify.test_fat.Goals as goal

pub returns-in-Ok-Binary-clause-refused : goal.returns-in-Ok-Binary-clause-refused
returns-in-Ok-Binary-clause-refused c =
    let opened = rw (c.in-Ok-Binary.is, c.in-Ok-Binary.field-0-is) at c.parse.ensures.opened in
    (opened.ctx, commands_view c.in-Ok-Binary.field-0-0, opened.opens)

pub returns-clause-refused : goal.returns-clause-refused
returns-clause-refused c =
    let bytes = c.args.bytes.now in
    let e = c.in-Err.error in
    subst (λ refusal. RefusesFaults bytes refusal) (sym c.refused_by.ensures)
    (refuses_faults bytes c.refused_kind.result e
    (ErrorMeets-in _ (FatFault bytes) e (λ f fault. in_view f c.requires (of_file f fault)) c.in-Err.ensures.refused) (sym c.refused_kind.ensures))
