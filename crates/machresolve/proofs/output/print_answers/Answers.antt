use Rattle.std.proofs.Common.{◌∙◌, ◌++◌, map, take, get_or, sym, ap, subst}
use Rattle.std.proofs.lemmas.List.{map_push, take_more}
use Rattle.std.specs.Prelude.{codes}
use Rattle.std.specs.Io.KnownBytes.{Appends}
use Rattle.mach_base.proofs.Written.{Appends-both}
use Rattle.machresolve.specs.Lines.{answer_text, lines_of}
use Rattle.mach_resolve.specs.ResolveViews.{answer_view}
use Rattle.machresolve.proofs.Printed.{lines_push}
use Rattle.machresolve.proofs.output.print_answers.Goals as goal

pub answers-preserved : goal.answers-preserved
answers-preserved g c =
    let answers = c.args.answers.now in
    let i = c.answers.answer-index in
    let before = map answer_view (take i answers) in
    let a = get_or answers i _ in
    let line = answer_text (answer_view a) ++ codes "\n" in
    subst (Appends (g.O.Write.contents c.args.out.now) (g.O.Write.contents c.writeln.new.self))
    (sym (ap (λ xs. lines_of (map answer_view xs)) (take_more answers i _ c.answers-test.true)
    ∙ (ap lines_of (map_push answer_view (take i answers) a) ∙ lines_push before (answer_view a))))
    (Appends-both _ _ _ (lines_of before) line c.answers.invariant c.in_ok-writeln.ensures.bytes)
