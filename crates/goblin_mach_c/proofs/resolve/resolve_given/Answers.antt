use Rattle.std.proofs.Common.{◌≡◌, ◌∙◌, Ok, length, map, sym, ap, subst}
use Rattle.std.proofs.lemmas.List.{length-map}
use Rattle.mach_resolve.specs.Failures.{IsFailure}
use Rattle.mach_resolve.specs.Opened.{given_view}
use Rattle.mach_resolve.specs.Resolved.{ResolveFault}
use Rattle.mach_resolve.proofs.Notes.{fails_more}
use Rattle.goblin_mach_c.specs.GivenFiles.{AreGiven, PartFault, given_at}
use Rattle.goblin_mach_c.specs.ResolveRows.{RefusesGiven, of_part, of_given, of_none}
use Rattle.goblin_mach_c.proofs.RefusedFiles.{none_given}
use Rattle.goblin_mach_c.proofs.resolve.resolve_given.Goals as goal

pub returns-in-Err-clause-refused : goal.returns-in-Err-clause-refused
returns-in-Err-clause-refused g c =
    let bytes = c.args.bytes.now in
    let files = c.args.files.now in
    fails_more (PartFault bytes files) (RefusesGiven c.args.limit bytes files) c.in-Err.failure (λ n f occurs. of_part occurs) c.in-Err.ensures.refused

pub returns-in-Ok-resolve-clause-resolved : goal.returns-in-Ok-resolve-clause-resolved
returns-in-Ok-resolve-clause-resolved g c =
    let program = c.in-Some.program.now in
    let libraries = c.in-Some.libraries.now in
    record {
      program = given_view program;
      libraries = map given_view libraries;
      given = subst (λ xs. AreGiven c.args.bytes.now c.args.files.now (map given_view xs)) (sym c.as_slice.ensures.value ∙ c.in-Some.ensures.cases.0)
          c.in-Ok.ensures.given;
      resolved = c.in-Ok-resolve.ensures.resolved;
    }

pub returns-in-Some-clause-refused : goal.returns-in-Some-clause-refused
returns-in-Some-clause-refused g c =
    let bytes = c.args.bytes.now in
    let files = c.args.files.now in
    let p = given_view c.in-Some.program.now in
    let ls = map given_view c.in-Some.libraries.now in
    let given = subst (λ xs. AreGiven bytes files (map given_view xs)) (sym c.as_slice.ensures.value ∙ c.in-Some.ensures.cases.0) c.in-Ok.ensures.given in
    fails_more (ResolveFault c.args.limit p ls) (RefusesGiven c.args.limit bytes files) c.in-Err-resolve.failure
    (λ n f occurs. of_given p ls given occurs) c.in-Err-resolve.ensures.refused

pub returns-clause-refused : goal.returns-clause-refused
returns-clause-refused g c =
    let bytes = c.args.bytes.now in
    let files = c.args.files.now in
    let all = c.in-Ok.all.items in
    let none : length (map given_view all) ≡ 0 = length-map all given_view ∙ (ap length (sym c.as_slice.ensures.value) ∙ c.in-None.ensures.cases) in
    subst (IsFailure (RefusesGiven c.args.limit bytes files)) (sym c.refused.ensures)
    (of_none (none_given (λ p f. given_at bytes p ≡ Ok f) files (map given_view all) none c.in-Ok.ensures.given))
