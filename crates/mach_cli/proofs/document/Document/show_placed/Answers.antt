use Rattle.std.proofs.Common.{◌∙◌, Option, sym, subst}
use Rattle.std.specs.Prelude.{None}
use Rattle.mach_parts.specs.ArchForms.{arch_form_32}
use Rattle.goblin_mach.specs.ItemsLeft.{input_item_read}
use Rattle.mach_cli.specs.Labels.{label_view}
use Rattle.mach_cli.specs.Shown.{ShowsItem, no_part, not_shown, way_in}
use Rattle.mach_cli.specs.TableEntries.{outside_at, outside_words}
use Rattle.mach_cli.specs.declared.entries.OutOfFile.{OutOfFile}
use Rattle.mach_cli.proofs.Showing.{prints_as, prints_one}
use Rattle.mach_cli.proofs.document.Document.show_placed.Goals as goal

pub returns-in-None : goal.returns-in-None
returns-in-None g c =
    let w = way_in g.K.Sink.texts g.V.ImageView.lines c.args.self.now in
    let x = input_item_read c.args.item in
    let label = label_view c.args.label in
    prints_as c.show_item.result _ _ _ _ (ShowsItem w c.args.left label None x.content)
    (ShowsItem w c.args.left label (outside_at arch_form_32 c.args.bytes.now x.place.entry) x.content)
    (λ shown shows. subst (λ (outside : Option OutOfFile). ShowsItem w c.args.left label outside x.content shown)
    (sym c.in-None.is ∙ c.outside_at.ensures) shows)
    c.show_item.ensures

pub returns-in-Some : goal.returns-in-Some
returns-in-Some g c =
    let w = way_in g.K.Sink.texts g.V.ImageView.lines c.args.self.now in
    let x = input_item_read c.args.item in
    let label = label_view c.args.label in
    let outside = c.in-Some.outside in
    let none = not_shown w label (outside_words outside) c.args.left in
    prints_one c.refuse_image.result _ _ _ _ (ShowsItem w c.args.left label (outside_at arch_form_32 c.args.bytes.now x.place.entry) x.content) none
    (subst (λ (found : Option OutOfFile). ShowsItem w c.args.left label found x.content none) (sym c.in-Some.is ∙ c.outside_at.ensures)
    (no_part outside x.content))
    c.refuse_image.ensures
