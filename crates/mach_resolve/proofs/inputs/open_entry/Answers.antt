use Rattle.std.proofs.Common.{sym, subst}
use Rattle.mach_resolve.specs.Cpu.{of_table}
use Rattle.mach_resolve.specs.Failures.{IsFailure}
use Rattle.mach_resolve.specs.Given.{NumberedFault, OpenFault, LibraryFault}
use Rattle.mach_resolve.specs.Opened.{given_view}
use Rattle.mach_resolve.specs.ResolveViews.{input_view}
use Rattle.mach_resolve.proofs.Cpus.{entry_fault, entry_library, finds_numbered, library_fault, numbered_fault}
use Rattle.mach_resolve.proofs.Notes.{fails_more}
use Rattle.mach_resolve.proofs.Steps.{reported}
use Rattle.mach_resolve.proofs.inputs.open_entry.Goals as goal

pub returns-in-Ok-clause-opened : goal.returns-in-Ok-clause-opened
returns-in-Ok-clause-opened g c = λ has.
    let given = given_view c.args.given in
    let arm = c.in-Ok-Some in
    let found = rw (arm.is, arm.field-0-is) at c.find_cputype.ensures in
    entry_library c.args.cputype c.args.number given c.entry_slice-bytes.result.now _ (input_view c.in-Ok.file)
    (finds_numbered g.R.ArchRecord.arch_form given.bytes c.args.container.now c.args.cputype _ has found) c.entry_slice-bytes.ensures c.in-Ok.ensures.opened

pub returns-in-Err-open-clause-refused : goal.returns-in-Err-open-clause-refused
returns-in-Err-open-clause-refused g c = λ has.
    let given = given_view c.args.given in
    let arm = c.in-Ok-Some in
    let number = c.args.number in
    let slice = c.entry_slice-bytes.result.now in
    let found = rw (arm.is, arm.field-0-is) at c.find_cputype.ensures in
    fails_more (OpenFault number (record { path = given.path; bytes = slice })) (NumberedFault number (LibraryFault c.args.cputype given))
    c.in-Err-open.failure
    (entry_fault c.args.cputype number given slice _ (finds_numbered g.R.ArchRecord.arch_form given.bytes c.args.container.now c.args.cputype _ has found)
    c.entry_slice-bytes.ensures)
    c.in-Err-open.ensures.refused

pub returns-in-Ok-None-clause-none : goal.returns-in-Ok-None-clause-none
returns-in-Ok-None-clause-none g c = λ has.
    let arm = c.in-Ok-None in
    of_table (finds_numbered g.R.ArchRecord.arch_form (given_view c.args.given).bytes c.args.container.now c.args.cputype _ has
    (rw (arm.is, arm.field-0-is) at c.find_cputype.ensures))

pub returns-in-Err-clause-refused : goal.returns-in-Err-clause-refused
returns-in-Err-clause-refused g c = λ has.
    let given = given_view c.args.given in
    let FaultAt = NumberedFault c.args.number (LibraryFault c.args.cputype given) in
    let e = c.in-Err.error in
    subst (IsFailure FaultAt) (sym c.refused.ensures)
    (reported FaultAt c.args.number e (library_fault c.args.cputype c.args.number given e
    (numbered_fault g.R.ArchRecord.arch_form given.bytes c.args.container.now c.args.cputype e has c.in-Err.ensures)))
