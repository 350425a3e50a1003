use Rattle.std.proofs.Common.{ℕ, ◌∙◌, List, subst}
use Rattle.std.proofs.lemmas.Result.{IfOk-weaker}
use Rattle.std.specs.Borrow.{Bor}
use Rattle.mach_cli.specs.ShownCalls.{ShowsJson, ShowsText}
use Rattle.machfixups.specs.ImageLines.{image_pointer_lines}
use Rattle.machfixups.specs.JsonImages.{image_pointer_members}
use Rattle.machfixups.proofs.show_call.Goals as goal

pub returns-clause-lines : goal.returns-clause-lines
returns-clause-lines g c = λ form.
    let s = c.shown_by.result in
    let shows = λ (worst : ℕ). λ (files : List (Bor (List ℕ))).
    ShowsText s s.program.name.now (image_pointer_lines s.lines.selection) g.W.Write.contents files c.args.call.now.others c.args.out.now c.show.new.out worst
    in
    IfOk-weaker c.show.result _ _ (λ worst shown. (s, c.shown_by.ensures, subst (shows worst) c.deref.ensures.value shown))
    (c.show.ensures.text (c.shown_by.ensures.form ∙ form))

pub returns-clause-objects : goal.returns-clause-objects
returns-clause-objects g c = λ form.
    let s = c.shown_by.result in
    let shows = λ (worst : ℕ). λ (files : List (Bor (List ℕ))).
    ShowsJson s s.program.name.now (image_pointer_members s.objects.selection) g.W.Write.contents files c.args.call.now.others c.args.out.now c.show.new.out
    worst
    in
    IfOk-weaker c.show.result _ _ (λ worst shown. (s, c.shown_by.ensures, subst (shows worst) c.deref.ensures.value shown))
    (c.show.ensures.json (c.shown_by.ensures.form ∙ form))
