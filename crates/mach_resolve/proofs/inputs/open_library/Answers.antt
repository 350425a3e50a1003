use Rattle.std.proofs.Common.{sym, subst}
use Rattle.mach_resolve.specs.Cpu.{is_numbered}
use Rattle.mach_resolve.specs.Failures.{IsFailure}
use Rattle.mach_resolve.specs.Given.{NumberedFault, LibraryFault}
use Rattle.mach_resolve.specs.Opened.{given_view}
use Rattle.mach_resolve.specs.ResolveViews.{input_view}
use Rattle.mach_resolve.proofs.Cpus.{archive_fault, file_fault, image_library, input_fault, library_fault, narrow_table, other_library, wide_table}
use Rattle.mach_resolve.proofs.Steps.{reported}
use Rattle.mach_resolve.proofs.inputs.open_library.Goals as goal

pub returns-then-image-cputype-clause-opened : goal.returns-then-image-cputype-clause-opened
returns-then-image-cputype-clause-opened g c =
    let arm = c.in-Ok-Image in
    let held = (rw (arm.is, arm.field-0-is) at c.parse.ensures.opened).1 in
    let given = given_view c.args.given in
    image_library c.args.cputype c.args.number given arm.image (input_view c.in_ok-file_of-in-Ok-Image.field-0) held c.if-image-cputype.true
    (c.in_ok-file_of-in-Ok-Image.ensures given.bytes held)

pub returns-in-Ok-Image-clause-none : goal.returns-in-Ok-Image-clause-none
returns-in-Ok-Image-clause-none g c =
    let arm = c.in-Ok-Image in
    let held = (rw (arm.is, arm.field-0-is) at c.parse.ensures.opened).1 in
    other_library c.args.cputype (given_view c.args.given).bytes arm.image held c.if-image-cputype.false

pub returns-in-Ok-Fat-clause-opened : goal.returns-in-Ok-Fat-clause-opened
returns-in-Ok-Fat-clause-opened g c =
    let arm = c.in-Ok-Fat in
    c.open_entry.ensures.opened (narrow_table (given_view c.args.given).bytes arm.container (rw (arm.is, arm.field-0-is) at c.parse.ensures.opened))

pub returns-in-Ok-Fat-clause-none : goal.returns-in-Ok-Fat-clause-none
returns-in-Ok-Fat-clause-none g c =
    let arm = c.in-Ok-Fat in
    c.open_entry.ensures.none (narrow_table (given_view c.args.given).bytes arm.container (rw (arm.is, arm.field-0-is) at c.parse.ensures.opened))

pub returns-in-Ok-Fat-clause-refused : goal.returns-in-Ok-Fat-clause-refused
returns-in-Ok-Fat-clause-refused g c =
    let arm = c.in-Ok-Fat in
    c.open_entry.ensures.refused (narrow_table (given_view c.args.given).bytes arm.container (rw (arm.is, arm.field-0-is) at c.parse.ensures.opened))

pub returns-in-Ok-Fat64-clause-opened : goal.returns-in-Ok-Fat64-clause-opened
returns-in-Ok-Fat64-clause-opened g c =
    let arm = c.in-Ok-Fat64 in
    c.open_entry-in-Ok-Fat64.ensures.opened (wide_table (given_view c.args.given).bytes arm.container (rw (arm.is, arm.field-0-is) at c.parse.ensures.opened))

pub returns-in-Ok-Fat64-clause-none : goal.returns-in-Ok-Fat64-clause-none
returns-in-Ok-Fat64-clause-none g c =
    let arm = c.in-Ok-Fat64 in
    c.open_entry-in-Ok-Fat64.ensures.none (wide_table (given_view c.args.given).bytes arm.container (rw (arm.is, arm.field-0-is) at c.parse.ensures.opened))

pub returns-in-Ok-Fat64-clause-refused : goal.returns-in-Ok-Fat64-clause-refused
returns-in-Ok-Fat64-clause-refused g c =
    let arm = c.in-Ok-Fat64 in
    c.open_entry-in-Ok-Fat64.ensures.refused (wide_table (given_view c.args.given).bytes arm.container (rw (arm.is, arm.field-0-is) at c.parse.ensures.opened))

pub returns-in-Ok-Archive-clause-refused : goal.returns-in-Ok-Archive-clause-refused
returns-in-Ok-Archive-clause-refused g c =
    let arm = c.in-Ok-Archive in
    let given = given_view c.args.given in
    let FaultAt = NumberedFault c.args.number (LibraryFault c.args.cputype given) in
    let e = c.archive_error.result in
    let begins = (rw (arm.is, arm.field-0-is) at c.parse.ensures.opened).0 in
    subst (IsFailure FaultAt) (sym c.refused.ensures)
    (reported FaultAt c.args.number e (library_fault c.args.cputype c.args.number given e
    (file_fault (is_numbered c.args.cputype) given.bytes e (archive_fault given.bytes e begins c.archive_error.ensures))))

pub returns-clause-refused : goal.returns-clause-refused
returns-clause-refused g c =
    let given = given_view c.args.given in
    let FaultAt = NumberedFault c.args.number (LibraryFault c.args.cputype given) in
    let e = c.in-Err.error in
    subst (IsFailure FaultAt) (sym c.refused-in-Err.ensures)
    (reported FaultAt c.args.number e (library_fault c.args.cputype c.args.number given e
    (file_fault (is_numbered c.args.cputype) given.bytes e (input_fault given.bytes e c.in-Err.ensures.refused))))
