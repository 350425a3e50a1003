use Rattle.std.proofs.Common.{List, ℕ, Some, sym, subst}
use Rattle.goblin_mach.proofs.ImageFacts.{strict-lossy}
use Rattle.goblin_mach.specs.View.{ViewFault}
use Rattle.mach_cli.specs.Foreigners.{refused_words}
use Rattle.std.specs.Prelude.{alloc_error}
use Rattle.mach_base.specs.declared.error.Error.TheVariants as errors
use Rattle.mach_cli.specs.Refusals.{memory_words, refusal_reason}
use Rattle.mach_cli.specs.Shown.{IsFatTable, OpensAfter, ShowsFile, opens_lossily, opens_strictly, refused_file, refused_for, way_in}
use Rattle.mach_cli.proofs.Showing.{prints_one, reports_of}
use Rattle.mach_cli.proofs.document.Document.show.Goals as goal

pub returns-in-Ok-Image : goal.returns-in-Ok-Image
returns-in-Ok-Image g c =
    let bytes = c.args.bytes.now in
    let opened = rw (c.in-Ok-Image.is, c.in-Ok-Image.field-0-is) at c.open.ensures.held in
    c.show_one.ensures bytes (strict-lossy bytes 0 _ opened) (opens_strictly (opened.ctx, _, opened.opens))

pub returns-in-Ok-Fat : goal.returns-in-Ok-Fat
returns-in-Ok-Fat g c =
    let arm = c.in-Ok-Fat in
    let held = rw (arm.is, arm.field-0-is) at c.open.ensures.held in
    c.show_fat.ensures held.0 (subst (IsFatTable c.args.bytes.now held.0) (sym c.as_slice.ensures.value) held.1) held.2

pub returns-in-Ok-Some : goal.returns-in-Ok-Some
returns-in-Ok-Some g c =
    let bytes = c.args.bytes.now in
    let error = c.in-Err.error in
    let arm = c.in-Ok-Some in
    let opened = rw (arm.is, arm.field-0-is) at c.open_lossy.ensures.opened in
    let reported = rw arm.is at c.open_lossy.ensures.reported in
    c.show_one-in-Ok-Some.ensures bytes opened.1
    (subst (λ (words : List ℕ). OpensAfter c.args.self.now.is_lossy bytes (ViewFault bytes) (refused_words bytes) (Some words))
    (sym c.refusal_of-refusal.ensures)
    (opens_lossily error opened.0 (reports_of (ViewFault bytes) error reported c.in-Err.ensures.refused) (opened.1.ctx, _, opened.1.opens)))

pub returns-in-Ok-None : goal.returns-in-Ok-None
returns-in-Ok-None g c =
    let more = rw (c.in-Ok-None.is, c.in-Ok-None.field-0-is) at c.open_lossy.ensures.refused in
    let d = c.args.self.now in
    let w = way_in g.K.Sink.texts g.V.ImageView.lines d in
    let Shows = ShowsFile w d.cpu d.limit c.args.bytes.now in
    prints_one c.refuse.result _ _ _ _ Shows (refused_for w (refusal_reason c.refusal_of-refusal.result) d.limit)
    (subst (λ (words : List ℕ). Shows (refused_for w words d.limit)) (sym c.refusal_of-refusal.ensures)
    (refused_file c.in-Err.error c.in-Err.ensures.refused (λ is reported. more is)))
    c.refuse.ensures

pub returns-in-Err-open_lossy : goal.returns-in-Err-open_lossy
returns-in-Err-open_lossy g c =
    let d = c.args.self.now in
    let w = way_in g.K.Sink.texts g.V.ImageView.lines d in
    prints_one c.refuse-in-Err-open_lossy.result _ _ _ _ (ShowsFile w d.cpu d.limit c.args.bytes.now) (refused_for w memory_words d.limit)
    (refused_file (errors.Memory alloc_error) tt (λ is reported. absurd reported))
    c.refuse-in-Err-open_lossy.ensures
