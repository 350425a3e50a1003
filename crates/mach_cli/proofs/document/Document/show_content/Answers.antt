use Rattle.std.proofs.Common.{List, ℕ, Ok, Some, sym, subst}
use Rattle.std.specs.Prelude.{None, alloc_error}
use Rattle.mach_base.proofs.Faults.{ErrorMeets-in}
use Rattle.mach_base.specs.declared.error.Error.TheVariants as errors
use Rattle.goblin_mach.proofs.ImageFacts.{strict-lossy}
use Rattle.goblin_mach.specs.Image.{ImageFault, LossyFault}
use Rattle.goblin_mach.specs.Items.{content_bytes, content_view}
use Rattle.mach_cli.specs.Labels.{label_view}
use Rattle.mach_cli.specs.Refusals.{content_words, memory_words, refusal_reason}
use Rattle.mach_cli.specs.Shown.{FaultOfItem, OpensAfter, ShowsAfter, ShowsItem, an_image, not_shown, opens_lossily, opens_strictly, way_in}
use Rattle.mach_cli.proofs.Showing.{item_fault, memory_words_of, prints_as, prints_one, refused_item, reports_of}
use Rattle.mach_cli.proofs.document.Document.show_content.Goals as goal

pub returns-in-Ok : goal.returns-in-Ok
returns-in-Ok g c = λ may.
    let w = way_in g.K.Sink.texts g.V.ImageView.lines c.args.self.now in
    let label = label_view c.args.label in
    let view = content_view c.args.content in
    let opened = c.in-Ok.ensures.opened in
    prints_as c.show_opened.result _ _ _ _ (ShowsAfter w c.args.left label (content_bytes view) None) (ShowsItem w c.args.left label None (Ok view))
    (λ shown shows. an_image view None shown (opens_strictly (opened.ctx, _, opened.opens)) shows)
    (c.show_opened.ensures (content_bytes view) (strict-lossy _ 0 _ opened))

pub returns-in-Ok-Some : goal.returns-in-Ok-Some
returns-in-Ok-Some g c = λ may.
    let w = way_in g.K.Sink.texts g.V.ImageView.lines c.args.self.now in
    let label = label_view c.args.label in
    let view = content_view c.args.content in
    let error = c.in-Err.error in
    let words = refusal_reason c.refusal_of_content-refusal.result in
    let arm = c.in-Ok-Some in
    let opened = rw (arm.is, arm.field-0-is, c.bytes.ensures) at c.open_lossy.ensures.opened in
    let reported = rw arm.is at c.open_lossy.ensures.reported in
    let fault = ErrorMeets-in _ (FaultOfItem ImageFault (Ok view)) error (item_fault ImageFault view may) c.in-Err.ensures.refused in
    let after = subst
    (λ (said : List ℕ). OpensAfter w.is_lossy (content_bytes view) (FaultOfItem ImageFault (Ok view)) (content_words view) (Some said))
    (sym c.refusal_of_content-refusal.ensures)
    (opens_lossily error opened.0 (reports_of (FaultOfItem ImageFault (Ok view)) error reported fault) (opened.1.ctx, _, opened.1.opens))
    in
    prints_as c.show_opened-in-Ok-Some.result _ _ _ _ (ShowsAfter w c.args.left label (content_bytes view) (Some words))
    (ShowsItem w c.args.left label None (Ok view))
    (λ shown shows. an_image view (Some words) shown after shows)
    (c.show_opened-in-Ok-Some.ensures (content_bytes view) opened.1)

pub returns-in-Ok-None : goal.returns-in-Ok-None
returns-in-Ok-None g c = λ may.
    let w = way_in g.K.Sink.texts g.V.ImageView.lines c.args.self.now in
    let label = label_view c.args.label in
    let view = content_view c.args.content in
    let words = refusal_reason c.refusal_of_content-refusal.result in
    let more = rw (c.in-Ok-None.is, c.in-Ok-None.field-0-is, c.bytes.ensures) at c.open_lossy.ensures.refused in
    prints_one c.refuse_image.result _ _ _ _ (ShowsItem w c.args.left label None (Ok view)) (not_shown w label words c.args.left)
    (refused_item w c.args.left label (Ok view) c.in-Err.error words
    (ErrorMeets-in _ (FaultOfItem ImageFault (Ok view)) c.in-Err.error (item_fault ImageFault view may) c.in-Err.ensures.refused)
    (λ is reported. let fault = more is in (fault.0, item_fault LossyFault view may fault.0 fault.1))
    c.refusal_of_content-refusal.ensures)
    c.refuse_image.ensures

pub returns-in-Err-open_lossy : goal.returns-in-Err-open_lossy
returns-in-Err-open_lossy g c = λ may.
    let w = way_in g.K.Sink.texts g.V.ImageView.lines c.args.self.now in
    let label = label_view c.args.label in
    let view = content_view c.args.content in
    prints_one c.refuse_image-in-Err-open_lossy.result _ _ _ _ (ShowsItem w c.args.left label None (Ok view)) (not_shown w label memory_words c.args.left)
    (refused_item w c.args.left label (Ok view) (errors.Memory alloc_error) memory_words tt (λ is reported. absurd reported) (memory_words_of view))
    c.refuse_image-in-Err-open_lossy.ensures
