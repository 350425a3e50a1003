use Rattle.std.proofs.Common.{sym, ◌∙◌}
use Rattle.mach_base.specs.Fault.{fault_of}
use Rattle.goblin_mach.specs.Image.{ImageFault}
use Rattle.goblin_mach.proofs.Exits.{exit_in, exit_reported}
use Rattle.goblin_mach.specs.File.{MachFault}
use Rattle.mach_parts.specs.FatRecords.{HasFat64Magic}
use Rattle.goblin_mach.specs.Inputs.{IsNeither, InputFault, of_archive, of_fat_64, of_mach}
use Rattle.goblin_mach.proofs.input.Input.parse.Goals as goal

pub returns-in_err-parse-clause-refused : goal.returns-in_err-parse-clause-refused
returns-in_err-parse-clause-refused g c =
    exit_reported (InputFault c.args.bytes.now) _ _ c.from_residual.ensures.1
    (of_archive (fault_of c.in_err-parse.field-0.0) (sym c.begins_archive.ensures ∙ c.if-begins_archive.true) c.in_err-parse.ensures)

pub returns-in_err-new-clause-refused : goal.returns-in_err-new-clause-refused
returns-in_err-new-clause-refused g c =
    exit_reported (InputFault c.args.bytes.now) _ _ c.from_residual-in_err-new.ensures.1
    (of_fat_64 (fault_of c.in_err-new.field-0.0) (sym c.begins_archive.ensures ∙ c.if-begins_archive.false)
    (c.has_fat_64_magic.ensures.0 c.if-has_fat_64_magic.true) c.in_err-new.ensures)

pub returns-in_err-image-clause-refused : goal.returns-in_err-image-clause-refused
returns-in_err-image-clause-refused g c =
    let no_fat_64 : ¬ (HasFat64Magic c.args.bytes.now) =
    λ magic. (let wrong = sym (c.has_fat_64_magic.ensures.1 magic) ∙ c.if-has_fat_64_magic.false in cc)
    in
    let neither : IsNeither c.args.bytes.now =
    record { no_archive = sym c.begins_archive.ensures ∙ c.if-begins_archive.false; no_fat_64 = no_fat_64 }
    in
    exit_in (MachFault ImageFault c.args.bytes.now) (InputFault c.args.bytes.now) _ _ c.from_residual-in_err-image.ensures.1
    (λ f fault. of_mach f neither fault) c.in_err-image.ensures.refused
