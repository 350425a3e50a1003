use Rattle.std.proofs.Common.{Option, ℕ, List, Bool, sym, subst}
use Rattle.std.proofs.lemmas.Result.{IfOk-weaker}
use Rattle.goblin_mach.specs.Image.{ImageFault}
use Rattle.goblin_mach.specs.Items.{content_bytes, content_view}
use Rattle.mach_signature.specs.DirectoryViews.{slot_read}
use Rattle.machsign.proofs.Opened.{reported_of}
use Rattle.machsign.specs.Entitlements.{EntitlesContent, IsSelectedImage, selected_entitles, other_entitles, refusal_entitles}
use Rattle.machsign.proofs.entitlements.of_content.Goals as goal

pub returns-in-Ok-clause-found : goal.returns-in-Ok-clause-found
returns-in-Ok-clause-found g c =
    let bytes = content_bytes (content_view c.args.content) in
    let selected = c.is_selected.ensures bytes c.in-Ok.ensures.opened in
    selected_entitles (slot_read c.of_image.result) (subst (λ (t : Bool). IsSelectedImage c.args.cpu c.args.entry bytes t) c.if-is_selected.true selected)
    (c.of_image.ensures bytes c.in-Ok.ensures.opened)

pub returns-in-Ok-2-clause-found : goal.returns-in-Ok-2-clause-found
returns-in-Ok-2-clause-found g c =
    let bytes = content_bytes (content_view c.args.content) in
    let selected = c.is_selected.ensures bytes c.in-Ok.ensures.opened in
    other_entitles (subst (λ (t : Bool). IsSelectedImage c.args.cpu c.args.entry bytes t) c.if-is_selected.false selected)

pub returns-clause-found : goal.returns-clause-found
returns-clause-found g c =
    let content = content_view c.args.content in
    IfOk-weaker c.of_refused.result _ _
    (λ found reported.
    subst (λ (it : Option (List ℕ)). EntitlesContent c.args.cpu c.args.entry content it) (sym reported.0)
    (refusal_entitles c.in-Err.error (reported_of (ImageFault (content_bytes content) 0) c.in-Err.error reported.1 c.in-Err.ensures.refused)))
    c.of_refused.ensures.none
