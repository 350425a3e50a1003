use Rattle.std.proofs.Common.{◌≡◌, ◌∙◌, [], Result, Ok, Err, true, refl, sym, ap, subst}
use Rattle.std.specs.Prelude.{None}
use Rattle.mach_base.proofs.Faults.{ErrorMeets-reported}
use Rattle.mach_base.proofs.Written.{Appends-none}
use Rattle.mach_base.specs.Fault.{Fault, fault_of}
use Rattle.mach_base.specs.Items.{read_as}
use Rattle.mach_base.specs.Words.{described, words_of}
use Rattle.goblin_mach.specs.Image.{ImageFault}
use Rattle.goblin_mach.specs.Items.{ContentView, content_view, no_member}
use Rattle.goblin_mach.specs.ItemsLeft.{input_item_read}
use Rattle.goblin_mach.specs.declared.item.Content.{Content}
use Rattle.mach_cli.specs.Labels.{label_view}
use Rattle.mach_cli.specs.Shown.{FaultOfItem, Shown, ShowsItem, an_archive, not_shown, way_in}
use Rattle.mach_cli.proofs.Showing.{prints_one, refused_item}
use Rattle.mach_cli.proofs.document.Document.show_item.Goals as goal

pub returns-in_ok-end_archive-in-Ok-NoMember : goal.returns-in_ok-end_archive-in-Ok-NoMember
returns-in_ok-end_archive-in-Ok-NoMember g c =
    let w = way_in g.K.Sink.texts g.V.ImageView.lines c.args.self.now in
    let arm = c.in-Ok-NoMember in
    let x = input_item_read c.args.item in
    let label = label_view c.args.label in
    let shown : Shown = record { text = w.texts.archive; message = []; whole = true; left = c.args.left } in
    let is = rw arm.is at arm.field-0-is in
    let here : x.content ≡ Ok no_member = ap (read_as content_view) arm.is ∙ ap (λ (content : Content). Ok (content_view content)) is in
    record {
      shown = shown;
      shows = subst (λ (content : Result ContentView Fault). ShowsItem w c.args.left label None content shown) (sym here) an_archive;
      whole = refl;
      left = refl;
      text = c.in_ok-end_archive-in-Ok-NoMember.ensures;
      message = Appends-none _;
    }

pub returns-in-Err : goal.returns-in-Err
returns-in-Err g c =
    let w = way_in g.K.Sink.texts g.V.ImageView.lines c.args.self.now in
    let e = c.in-Err.error in
    let x = input_item_read c.args.item in
    let label = label_view c.args.label in
    let none = not_shown w label (words_of (described c.describe.result)) c.args.left in
    let here : x.content ≡ Err (fault_of e) = ap (read_as content_view) c.in-Err.is in
    let refused = refused_item w c.args.left label (Err (fault_of e)) e (words_of (described c.describe.result))
    (ErrorMeets-reported (FaultOfItem ImageFault (Err (fault_of e))) e refl)
    (λ is reported. (fault_of e, refl)) (ap words_of c.describe.ensures)
    in
    prints_one c.refuse_image.result _ _ _ _ (ShowsItem w c.args.left label None x.content) none
    (subst (λ (content : Result ContentView Fault). ShowsItem w c.args.left label None content none) (sym here) refused)
    c.refuse_image.ensures
