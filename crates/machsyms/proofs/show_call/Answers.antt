use Rattle.std.proofs.Common.{ℕ, ◌∙◌, List, subst}
use Rattle.std.proofs.lemmas.Result.{IfOk-weaker}
use Rattle.std.specs.Borrow.{Bor}
use Rattle.mach_cli.specs.AddressLines.{AreAddressLines}
use Rattle.mach_cli.specs.AddressObjects.{AreAddressMembers}
use Rattle.mach_cli.specs.ShownCalls.{ShowsJson, ShowsNm}
use Rattle.machsyms.specs.ImageLines.{AreSelectedLines}
use Rattle.machsyms.specs.JsonSymbols.{AreSelectedMembers}
use Rattle.machsyms.proofs.show_call.Goals as goal

pub returns-else-has_at-clause-lines : goal.returns-else-has_at-clause-lines
returns-else-has_at-clause-lines g c = λ none form.
    let s = c.shown_by.result in
    let call = c.args.call.now in
    let shows = λ (worst : ℕ). λ (files : List (Bor (List ℕ))).
    ShowsNm s s.program.name.now (AreSelectedLines s.lines.letters s.lines.is_raw) g.W.Write.contents files call.others c.args.out.now c.show.new.out
    worst
    in
    IfOk-weaker c.show.result _ _ (λ worst shown. (s, c.shown_by.ensures, subst (shows worst) c.deref-else-has_at.ensures.value shown))
    (c.show.ensures.text (c.shown_by.ensures.form ∙ form))

pub returns-else-has_at-clause-objects : goal.returns-else-has_at-clause-objects
returns-else-has_at-clause-objects g c = λ none form.
    let s = c.shown_by.result in
    let call = c.args.call.now in
    let shows = λ (worst : ℕ). λ (files : List (Bor (List ℕ))).
    ShowsJson s s.program.name.now (AreSelectedMembers s.objects.letters s.objects.is_raw) g.W.Write.contents files call.others c.args.out.now c.show.new.out
    worst
    in
    IfOk-weaker c.show.result _ _ (λ worst shown. (s, c.shown_by.ensures, subst (shows worst) c.deref-else-has_at.ensures.value shown))
    (c.show.ensures.json (c.shown_by.ensures.form ∙ form))

pub returns-then-has_at-clause-lines_at : goal.returns-then-has_at-clause-lines_at
returns-then-has_at-clause-lines_at g c = λ some form.
    let s = c.shown_at.result in
    let call = c.args.call.now in
    let shows = λ (worst : ℕ). λ (files : List (Bor (List ℕ))).
    ShowsNm s s.program.name.now (AreAddressLines s.lines.load_address s.lines.addresses.now s.lines.has_file s.lines.is_raw) g.W.Write.contents files
    call.others c.args.out.now c.show_at.new.out worst
    in
    IfOk-weaker c.show_at.result _ _ (λ worst shown. (s, c.shown_at.ensures, subst (shows worst) c.deref.ensures.value shown))
    (c.show_at.ensures.text (c.shown_at.ensures.form ∙ form))

pub returns-then-has_at-clause-objects_at : goal.returns-then-has_at-clause-objects_at
returns-then-has_at-clause-objects_at g c = λ some form.
    let s = c.shown_at.result in
    let call = c.args.call.now in
    let shows = λ (worst : ℕ). λ (files : List (Bor (List ℕ))).
    ShowsJson s s.program.name.now (AreAddressMembers s.objects.load_address s.objects.addresses.now) g.W.Write.contents files call.others c.args.out.now
    c.show_at.new.out worst
    in
    IfOk-weaker c.show_at.result _ _ (λ worst shown. (s, c.shown_at.ensures, subst (shows worst) c.deref.ensures.value shown))
    (c.show_at.ensures.json (c.shown_at.ensures.form ∙ form))
