use Rattle.std.proofs.Common.{◌≡◌, ◌∙◌, ◌+◌, ◌++◌, ◌∷◌, [], Ok, map, take, get_or, sym, ap, subst, arith}
use Rattle.std.proofs.lemmas.List.{map_push, take_all, take_more}
use Rattle.std.proofs.lemmas.Option.{slice_get-get_or}
use Rattle.mach_base.proofs.Faults.{ErrorMeets-reported}
use Rattle.mach_resolve.specs.Failures.{IsFailure}
use Rattle.mach_resolve.specs.Opened.{given_view}
use Rattle.mach_resolve.proofs.Found.{all_zip_push}
use Rattle.mach_resolve.proofs.Steps.{reported}
use Rattle.goblin_mach_c.specs.GivenFiles.{AreGiven, PartFault, given_at}
use Rattle.goblin_mach_c.proofs.given_files.all_given.Goals as goal

pub loop-number-init : goal.loop-number-init
loop-number-init g c = subst (λ xs. AreGiven c.args.bytes.now [] (map given_view xs)) (sym c.new-all.ensures.items) tt

pub returns-in-Err-clause-refused : goal.returns-in-Err-clause-refused
returns-in-Err-clause-refused g c =
    let files = c.args.files.now in
    let i = c.loop-number.number in
    let Faults = PartFault c.args.bytes.now files in
    subst (IsFailure Faults) (sym c.refused.ensures)
    (reported Faults i c.in-Err.why
    (ErrorMeets-reported (Faults i) c.in-Err.why (get_or files i _, slice_get-get_or files i _ c.loop-number-test.true, c.in-Err.ensures)))

pub loop-number-preserved : goal.loop-number-preserved
loop-number-preserved g c =
    let files = c.args.files.now in
    let bytes = c.args.bytes.now in
    let i = c.loop-number.number in
    let all = c.loop-number.all.items in
    let x = c.in-Ok.given in
    subst (AreGiven bytes (take (i + 1) files)) (sym (ap (map given_view) c.in_ok-push-in-Ok.ensures.items ∙ map_push given_view all x))
    (subst (λ ps. AreGiven bytes ps (map given_view all ++ given_view x ∷ [])) (sym (take_more files i _ c.loop-number-test.true))
    (all_zip_push (λ p f. given_at bytes p ≡ Ok f) (take i files) (map given_view all) (get_or files i _) (given_view x) c.loop-number.invariant
    c.in-Ok.ensures))

pub returns-clause-given : goal.returns-clause-given
returns-clause-given g c =
    let files = c.args.files.now in
    subst (λ ps. AreGiven c.args.bytes.now ps (map given_view c.loop-number.all.items))
    (take_all c.loop-number.number files (omega (arith, c.loop-number-test.false))) c.loop-number.invariant
