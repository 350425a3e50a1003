use Rattle.std.proofs.Common.{ℕ, ◌∙◌, List, subst}
use Rattle.std.proofs.lemmas.Result.{IfOk-weaker}
use Rattle.std.specs.Borrow.{Bor}
use Rattle.mach_cli.specs.ShownCalls.{ShowsJson, ShowsText}
use Rattle.machsign.specs.ImageLines.{AreImageSignatureLines}
use Rattle.machsign.specs.JsonSignature.{AreImageSignatureMembers}
use Rattle.machsign.proofs.show_call.Goals as goal

pub returns-clause-lines : goal.returns-clause-lines
returns-clause-lines g c = λ form.
    let s = c.shown_by.result in
    let shows = λ (worst : ℕ). λ (files : List (Bor (List ℕ))).
    ShowsText s s.program.name.now (λ _. AreImageSignatureLines) g.W.Write.contents files c.args.call.now.others c.args.out.now c.show_files.new.out worst
    in
    IfOk-weaker c.show_files.result _ _ (λ worst shown. (s, c.shown_by.ensures, subst (shows worst) c.deref.ensures.value shown))
    (c.show_files.ensures.text (c.shown_by.ensures.form ∙ form))

pub returns-clause-objects : goal.returns-clause-objects
returns-clause-objects g c = λ form.
    let s = c.shown_by.result in
    let shows = λ (worst : ℕ). λ (files : List (Bor (List ℕ))).
    ShowsJson s s.program.name.now (λ _ _. AreImageSignatureMembers) g.W.Write.contents files c.args.call.now.others c.args.out.now c.show_files.new.out worst
    in
    IfOk-weaker c.show_files.result _ _ (λ worst shown. (s, c.shown_by.ensures, subst (shows worst) c.deref.ensures.value shown))
    (c.show_files.ensures.json (c.shown_by.ensures.form ∙ form))
