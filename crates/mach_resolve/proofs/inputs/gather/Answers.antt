use Rattle.std.proofs.Common.{◌+◌, map, get_or, sym, subst, arith}
use Rattle.std.proofs.lemmas.List.{drop_all, length-map}
use Rattle.mach_resolve.specs.Given.{Gathers, done, next, NumberedFault, OpenFault, LibraryFault, FaultFor}
use Rattle.mach_resolve.specs.ResolveViews.{input_view, gathered_view}
use Rattle.mach_resolve.specs.Opened.{given_view}
use Rattle.mach_resolve.proofs.Notes.{fails_more}
use Rattle.mach_resolve.proofs.Opening.{program_fault, library_fault, given_at}
use Rattle.mach_resolve.proofs.inputs.gather.Goals as goal

pub returns-in-Err-clause-refused : goal.returns-in-Err-clause-refused
returns-in-Err-clause-refused g c =
    let p = given_view c.args.program in
    let ls = map given_view c.args.libraries.now in
    fails_more (OpenFault 0 p) (FaultFor c.args.cputype p ls) c.in-Err.failure (program_fault c.args.cputype p ls) c.in-Err.ensures.refused

pub loop-index-init : goal.loop-index-init
loop-index-init g c = λ all rest.
    let ls = map given_view c.args.libraries.now in (
      input_view c.in-Ok.file,
      c.in-Ok.ensures.opened,
      subst (λ x. Gathers c.args.cputype 1 ls x all) c.in_ok-gathered.ensures rest,
    )

pub returns-in-Err-add_library-clause-refused : goal.returns-in-Err-add_library-clause-refused
returns-in-Err-add_library-clause-refused g c =
    let p = given_view c.args.program in
    let cpu = c.args.cputype in
    let i = c.loop-index.index in
    fails_more (NumberedFault (i + 1) (LibraryFault cpu (given_view (get_or c.args.libraries.now i _)))) (FaultFor cpu p (map given_view c.args.libraries.now))
    c.in-Err-add_library.failure (library_fault cpu p c.args.libraries.now i _ c.loop-index-test.true) c.in-Err-add_library.ensures.refused

pub loop-index-preserved : goal.loop-index-preserved
loop-index-preserved g c = λ all rest.
    let ls = map given_view c.args.libraries.now in
    let i = c.loop-index.index in
    c.loop-index.invariant all
    (subst (λ xs. Gathers c.args.cputype (i + 1) xs (gathered_view c.loop-index.gathered) all) (sym (given_at c.args.libraries.now i _ c.loop-index-test.true))
    (next (gathered_view c.in-Ok-add_library.more) c.in-Ok-add_library.ensures.added rest))

pub returns-clause-gathered : goal.returns-clause-gathered
returns-clause-gathered g c =
    let ls = map given_view c.args.libraries.now in
    let i = c.loop-index.index in
    let x = gathered_view c.loop-index.gathered in
    let none = drop_all i ls (omega (arith, c.loop-index-test.false, length-map c.args.libraries.now given_view)) in
    c.loop-index.invariant x (subst (λ xs. Gathers c.args.cputype (i + 1) xs x x) (sym none) done)
