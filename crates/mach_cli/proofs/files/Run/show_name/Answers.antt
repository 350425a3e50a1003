use Rattle.std.proofs.Common.{◌∙◌, List, ℕ, refl, sym, subst}
use Rattle.std.proofs.lemmas.Bool.{eqb-true}
use Rattle.std.proofs.lemmas.Result.{IfOk-weaker}
use Rattle.mach_cli.specs.ShownCalls.{manner_in, ShowsListed, ShowsNamed, empty_name, listed_file, no_text}
use Rattle.mach_cli.proofs.files.Run.show_name.Goals as goal

pub returns-then-is_empty-clause-shown : goal.returns-then-is_empty-clause-shown
returns-then-is_empty-clause-shown g c = empty_name (eqb-true _ _ (sym c.is_empty.ensures ∙ c.if-is_empty.true)) refl

pub returns-in-Ok-clause-shown : goal.returns-in-Ok-clause-shown
returns-in-Ok-clause-shown g c =
    let m = manner_in g.S.FileView.shows c.args.self.now in
    IfOk-weaker c.show_file.result _ _
    (λ status shown. listed_file status c.in-Ok.ensures.cases.1
    (subst (λ (name : List ℕ). ShowsNamed m name c.args.out.now c.show_file.new.out status) c.in-Ok.ensures.cases.0 shown))
    c.show_file.ensures.shown

pub returns-in-Err-clause-shown : goal.returns-in-Err-clause-shown
returns-in-Err-clause-shown g c =
    let m = manner_in g.S.FileView.shows c.args.self.now in
    let out = c.args.out.now in
    subst (ShowsListed m c.args.name.now out out) (sym c.refuse_name.ensures) (no_text c.in-Err.ensures.cases.0 refl)
