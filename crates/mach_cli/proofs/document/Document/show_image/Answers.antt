use Rattle.std.proofs.Common.{◌++◌, [], refl, sym, subst}
use Rattle.std.proofs.lemmas.Result.{IfOk-weaker}
use Rattle.mach_base.proofs.Written.{Appends-none, Appends-both}
use Rattle.mach_cli.specs.Labels.{label_view}
use Rattle.mach_cli.specs.Shown.{ShowsImage, image_printed, no_memory, way_in}
use Rattle.mach_cli.proofs.document.Document.show_image.Goals as goal

pub returns-in_ok-end_image-in-Ok : goal.returns-in_ok-end_image-in-Ok
returns-in_ok-end_image-in-Ok g c = λ bytes opened.
    let k = g.K.Sink.texts in
    let reported = c.in-Ok.ensures.shown bytes opened in
    let outcome = c.in-Ok.outcome in
    record {
      shown = record { text = reported.0 ++ k.image_end; message = []; whole = outcome.whole; left = outcome.left };
      shows = image_printed reported.0 outcome.whole outcome.left reported.1;
      whole = refl;
      left = refl;
      text = Appends-both _ _ _ reported.0 k.image_end reported.2 c.in_ok-end_image-in-Ok.ensures;
      message = Appends-none _;
    }

pub returns-in-Err-Memory : goal.returns-in-Err-Memory
returns-in-Err-Memory g c = λ bytes opened.
    let w = way_in g.K.Sink.texts g.V.ImageView.lines c.args.self.now in
    let kept = rw (c.in-Err-Memory.is, c.in-Err-Memory.field-0-is) at c.show.ensures.memory in
    IfOk-weaker c.refuse_image.result _ _
    (λ outcome p. record {
      shown = p.shown;
      shows = subst (ShowsImage w c.args.left (label_view c.args.label) bytes) (sym p.shows) no_memory;
      whole = p.whole;
      left = p.left;
      text = Appends-both _ _ _ [] p.shown.text kept p.text;
      message = p.message;
    })
    c.refuse_image.ensures
