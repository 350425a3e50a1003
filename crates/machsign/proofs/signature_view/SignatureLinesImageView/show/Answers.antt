use Rattle.goblin_mach.specs.OpenImage.{commands_view, segments_view}
use Rattle.machsign.proofs.SignedFacts.{held, signed_is, whole_as_signed}
use Rattle.machsign.proofs.Whole.{lines_unfaulted}
use Rattle.machsign.proofs.signature_view.SignatureLinesImageView.show.Goals as goal

pub returns-clause-shown : goal.returns-clause-shown
returns-clause-shown g c = λ bytes opened.
    let m = c.args.image.now in
    let listed = c.in_ok-print_signature.ensures in (
      listed.text,
      record {
        opens = (opened.ctx, commands_view m, opened.opens);
        there = held m bytes opened;
        segments = segments_view m;
        has_signed = signed_is m bytes opened;
        lines = listed.lines;
        as_signed = whole_as_signed m bytes opened _ _ (lines_unfaulted _ _ _ _ _ _ _ listed.lines);
      },
      listed.written,
    )
