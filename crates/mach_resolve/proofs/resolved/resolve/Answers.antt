use Rattle.std.proofs.Common.{map, refl, sym, subst}
use Rattle.goblin_mach.specs.Image.{ImageFault}
use Rattle.goblin_mach.specs.Libraries.{libraries_in}
use Rattle.goblin_mach.specs.OpenImage.{bytes_view, commands_view, ctx_view}
use Rattle.mach_dyld.specs.Exports.{text_in}
use Rattle.mach_resolve.specs.Failures.{IsFailure}
use Rattle.mach_resolve.specs.Answers.{Program}
use Rattle.mach_resolve.specs.Given.{FaultFor, unopened, opened}
use Rattle.mach_resolve.specs.Resolved.{AnswerFault, ResolveFault, of_file}
use Rattle.mach_resolve.specs.ResolveViews.{input_views, gathered_view, met_view}
use Rattle.mach_resolve.specs.Opened.{given_view}
use Rattle.mach_resolve.proofs.Cpus.{of_cpu}
use Rattle.mach_base.proofs.Faults.{ErrorMeets-in}
use Rattle.mach_resolve.proofs.Notes.{fails_more, memory_fails}
use Rattle.mach_resolve.proofs.Opened.{is_program, more_faults}
use Rattle.mach_resolve.proofs.Steps.{reported, given_name}
use Rattle.mach_resolve.proofs.resolved.resolve.Goals as goal

pub returns-in-Err-clause-refused : goal.returns-in-Err-clause-refused
returns-in-Err-clause-refused g c =
    let p = given_view c.args.program in
    let ls = map given_view c.args.libraries.now in
    subst (IsFailure (ResolveFault c.args.limit p ls)) (sym c.refused.ensures)
    (reported (ResolveFault c.args.limit p ls) 0 c.in-Err.error
    (ErrorMeets-in (ImageFault p.bytes 0) (ResolveFault c.args.limit p ls 0) c.in-Err.error
    (λ f occurs. of_file (unopened refl occurs)) c.in-Err.ensures.refused))

pub returns-in-Err-gather-clause-refused : goal.returns-in-Err-gather-clause-refused
returns-in-Err-gather-clause-refused g c =
    let p = given_view c.args.program in
    let ls = map given_view c.args.libraries.now in
    let cpu = c.in-Ok.image.header.cputype in
    fails_more (FaultFor cpu p ls) (ResolveFault c.args.limit p ls) c.in-Err-gather.failure
    (λ n f occurs. of_file (opened cpu (of_cpu p.bytes c.in-Ok.image c.in-Ok.ensures.opened) occurs)) c.in-Err-gather.ensures.refused

pub returns-in-Ok-answer_all-clause-resolved : goal.returns-in-Ok-answer_all-clause-resolved
returns-in-Ok-answer_all-clause-resolved g c =
    let p = given_view c.args.program in
    let m = c.in-Ok.image in
    let is = c.in-Ok.ensures.opened in
    let known : Program = record { name = c.unwrap_or.result.now; may_be_absent = c.in_ok-absences_of.field-0.items } in
    let libraries = libraries_in (ctx_view m).le (bytes_view m) (commands_view m) in
    let answered = c.in-Ok-answer_all.ensures.answered (met_view c.in_ok-all.all) c.in_ok-all.ensures (sym c.as_slice.ensures.value) in
    let first = answered.1 in
    record {
      files = input_views c.in-Ok-gather.gathered.files;
      gathered = (m.header.cputype, of_cpu p.bytes m is, c.in-Ok-gather.ensures.gathered);
      known = known;
      items = first.items;
      is_program = is_program p m known first.items (text_in m.name) libraries is
          (given_name m.name c.args.program.path c.unwrap_or.result c.unwrap_or.ensures)
          ((c.name_of_image.ensures.strict p.bytes 0 is (text_in m.name)).1 refl)
          c.in_ok-absences_of.ensures
          ((c.libraries_by_kind_of_image.ensures.strict p.bytes 0 is libraries).1 refl)
          ((c.bindings_of_image.ensures.strict p.bytes 0 is first.items).1 first.holds);
      bindings = answered.0;
      are_first = first.are_first;
      are_answers = answered.2;
      more_is = first.more_is;
    }

pub returns-clause-refused : goal.returns-clause-refused
returns-clause-refused g c =
    let p = given_view c.args.program in
    let ls = map given_view c.args.libraries.now in
    let m = c.in-Ok.image in
    let is = c.in-Ok.ensures.opened in
    let all = gathered_view c.in-Ok-gather.gathered in
    let files = all.files in
    fails_more (AnswerFault c.args.limit files m) (ResolveFault c.args.limit p ls) c.in-Err-answer_all.failure
    (more_faults c.args.limit p ls m all (m.header.cputype, of_cpu p.bytes m is, c.in-Ok-gather.ensures.gathered)
    (λ items. (c.bindings_of_image.ensures.strict p.bytes 0 c.in-Ok.ensures.opened items).1))
    c.in-Err-answer_all.ensures.refused

pub returns-in_err-all-clause-refused : goal.returns-in_err-all-clause-refused
returns-in_err-all-clause-refused g c =
    memory_fails (ResolveFault c.args.limit (given_view c.args.program) (map given_view c.args.libraries.now)) c.from_residual.result c.from_residual.ensures.1

pub returns-in_err-absences_of-clause-refused : goal.returns-in_err-absences_of-clause-refused
returns-in_err-absences_of-clause-refused g c =
    memory_fails (ResolveFault c.args.limit (given_view c.args.program) (map given_view c.args.libraries.now)) c.from_residual-in_err-absences_of.result
    c.from_residual-in_err-absences_of.ensures.1
