use Rattle.std.proofs.Common.{refl}
use Rattle.mach_cli.specs.Labels.{label_view}
use Rattle.mach_cli.specs.Refusals.{refusal_reason}
use Rattle.mach_cli.specs.Shown.{not_shown, way_in}
use Rattle.mach_cli.proofs.document.Document.refuse_image.Goals as goal

pub returns : goal.returns
returns g c =
    let w = way_in g.K.Sink.texts g.V.ImageView.lines c.args.self.now in
    record {
      shown = not_shown w (label_view c.args.label) (refusal_reason c.args.refusal) c.args.left;
      shows = refl;
      whole = refl;
      left = refl;
      text = c.in_ok-refuse_image.ensures;
      message = c.in_ok-complain.ensures;
    }
