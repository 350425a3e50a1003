use Rattle.std.proofs.Common.{◌≡◌, Bool, List, ℕ, refl, sym, subst, true}
use Rattle.std.proofs.lemmas.Bool.{true_from_ne_false}
use Rattle.std.proofs.lemmas.Result.{IfOk-weaker}
use Rattle.mach_cli.specs.FileTitles.{title_text}
use Rattle.mach_cli.specs.Labels.{label_view}
use Rattle.mach_cli.specs.ShownCalls.{NamedPart, manner_in, ShowsTitled, under_title, without_title}
use Rattle.mach_cli.specs.Titles.{IsUnder}
use Rattle.mach_cli.proofs.files.Run.show_named.Goals as goal

pub returns-in-Ok-clause-shown : goal.returns-in-Ok-clause-shown
returns-in-Ok-clause-shown g c =
    let run = c.args.self.now in
    let m = manner_in g.S.FileView.shows run in
    let between = c.put_title.new.out in
    let name = c.args.name.now in
    IfOk-weaker c.unless_unwritten.result _ _
    (λ kept facts. under_title between kept
    (subst (λ (is_titled : Bool). IsUnder (title_text is_titled run.is_nm c.args.file.now name (label_view c.args.label)) c.args.out.now between)
    c.has_title.ensures (subst (λ (title : List ℕ). IsUnder title c.args.out.now between) c.in-Ok.ensures.title c.put_title.ensures))
    (subst (λ (status : ℕ). m.shows name c.args.bytes.now between c.show.new.out status) (sym facts.0) (c.show.ensures.shown facts.1)))
    c.unless_unwritten.ensures.kept

pub returns-in-Err-clause-shown : goal.returns-in-Err-clause-shown
returns-in-Err-clause-shown g c =
    let run = c.args.self.now in
    let m = manner_in g.S.FileView.shows run in
    let out = c.args.out.now in
    let part : NamedPart = record { file = c.args.file.now; name = c.args.name.now; label = label_view c.args.label } in
    subst (ShowsTitled m c.args.is_titled part c.args.bytes.now out out) (sym c.no_memory_for.ensures)
    (without_title (subst (λ (is_titled : Bool). is_titled ≡ true) c.has_title.ensures
    (true_from_ne_false c.has_title.result (λ off. (let wrong = rw c.in-Err.is at (c.title_of.ensures.untitled off) in cc)))) refl)
