use Rattle.std.proofs.Common.{◌∙◌, List, ℕ, refl, sym, subst}
use Rattle.std.proofs.lemmas.Result.{IfOk-weaker}
use Rattle.std.specs.Prelude.{string_bytes, true}
use Rattle.goblin_mach.specs.ItemsLeft.{input_item_read}
use Rattle.mach_cli.specs.Labels.{LabelView, label_of, label_view}
use Rattle.mach_cli.specs.ShownCalls.{manner_in, ShowsTitled, empty_archive, outside_part, refused_part, the_file, within_it}
use Rattle.mach_cli.specs.ShownParts.{shown_in}
use Rattle.mach_cli.proofs.Orders.{part_as}
use Rattle.mach_cli.proofs.files.Run.show_part.Goals as goal

pub returns-in-Some-clause-shown : goal.returns-in-Some-clause-shown
returns-in-Some-clause-shown g c =
    let m = manner_in g.S.FileView.shows c.args.self.now in
    let out = c.args.out.now in
    let x = input_item_read c.args.part in
    let part = shown_in c.args.file.now x.place.entry x.content in
    part_as m c.args.file.now (label_of x.place x.content) out out _ _ part part 1 _ (sym c.in-Some.is ∙ c.outside_at.ensures) refl (sym c.refuse.ensures)
    (outside_part c.in-Some.outside part refl)

pub returns-in-Ok-Nothing-clause-shown : goal.returns-in-Ok-Nothing-clause-shown
returns-in-Ok-Nothing-clause-shown g c =
    let m = manner_in g.S.FileView.shows c.args.self.now in
    let out = c.args.out.now in
    let x = input_item_read c.args.part in
    let here = rw (c.in-Ok-Nothing.is, c.in-Ok-Nothing.field-0-is) at c.shown_part.ensures in
    part_as m c.args.file.now (label_of x.place x.content) out out _ _ _ _ 0 _ (sym c.in-None.is ∙ c.outside_at.ensures) (sym here) refl (empty_archive refl)

pub returns-in-Ok-Itself-clause-shown : goal.returns-in-Ok-Itself-clause-shown
returns-in-Ok-Itself-clause-shown g c =
    let m = manner_in g.S.FileView.shows c.args.self.now in
    let x = input_item_read c.args.part in
    let here = rw (c.in-Ok-Itself.is, c.in-Ok-Itself.field-0-is) at c.shown_part.ensures in
    IfOk-weaker c.show_itself.result _ _
    (λ status shown. part_as m c.args.file.now (label_of x.place x.content) c.args.out.now c.show_itself.new.out _ _ _ _ status status
    (sym c.in-None.is ∙ c.outside_at.ensures) (sym here) refl (the_file c.in-Ok-Itself.bytes.now status shown))
    c.show_itself.ensures.shown

pub returns-in-Ok-Within-clause-shown : goal.returns-in-Ok-Within-clause-shown
returns-in-Ok-Within-clause-shown g c =
    let m = manner_in g.S.FileView.shows c.args.self.now in
    let x = input_item_read c.args.part in
    let arm = c.in-Ok-Within in
    let named = c.show_named in
    let file = c.args.file.now in
    let here = rw (arm.is, arm.field-0-is) at c.shown_part.ensures in
    let Shows = λ (name : List ℕ). λ (label : LabelView). λ (status : ℕ).
    ShowsTitled m true (record { file = file; name = name; label = label }) arm.bytes.now c.args.out.now named.new.out status
    in
    IfOk-weaker named.result _ _
    (λ status shown. part_as m file (label_of x.place x.content) c.args.out.now named.new.out _ _ _ _ status status
    (sym c.in-None.is ∙ c.outside_at.ensures) (sym here) refl
    (within_it (string_bytes arm.name) arm.bytes.now status
    (subst (λ (label : LabelView). Shows (string_bytes arm.name) label status) c.of-label.ensures
    (subst (λ (name : List ℕ). Shows name (label_view c.of-label.result) status) c.as_str.ensures.value shown))))
    named.ensures.shown

pub returns-in-Err-clause-shown : goal.returns-in-Err-clause-shown
returns-in-Err-clause-shown g c =
    let m = manner_in g.S.FileView.shows c.args.self.now in
    let out = c.args.out.now in
    let x = input_item_read c.args.part in
    let part = shown_in c.args.file.now x.place.entry x.content in
    part_as m c.args.file.now (label_of x.place x.content) out out _ _ part part 1 _ (sym c.in-None.is ∙ c.outside_at.ensures) refl
    (sym c.refuse-in-Err.ensures) (refused_part part c.in-Err.error c.in-Err.ensures refl)
