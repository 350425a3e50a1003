use Rattle.std.proofs.Common.{refl}
use Rattle.mach_cli.specs.Refusals.{refusal_reason}
use Rattle.mach_cli.specs.Shown.{refused_for, way_in}
use Rattle.mach_cli.proofs.document.Document.refuse.Goals as goal

pub returns : goal.returns
returns g c =
    let w = way_in g.K.Sink.texts g.V.ImageView.lines c.args.self.now in
    record {
      shown = refused_for w (refusal_reason c.args.refusal) c.args.self.now.limit;
      shows = refl;
      whole = refl;
      left = refl;
      text = c.in_ok-refuse_file.ensures;
      message = c.in_ok-complain.ensures;
    }
