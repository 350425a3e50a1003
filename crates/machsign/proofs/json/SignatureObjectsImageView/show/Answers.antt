use Rattle.goblin_mach.specs.OpenImage.{commands_view, segments_view}
use Rattle.machsign.proofs.SignedFacts.{held, signed_is, whole_as_signed}
use Rattle.machsign.proofs.Whole.{object_unfaulted}
use Rattle.machsign.proofs.json.SignatureObjectsImageView.show.Goals as goal

pub returns-clause-shown : goal.returns-clause-shown
returns-clause-shown g c = λ bytes opened.
    let m = c.args.image.now in
    let reported = c.in_ok-write_members.ensures in (
      reported.text,
      record {
        opens = (opened.ctx, commands_view m, opened.opens);
        there = held m bytes opened;
        segments = segments_view m;
        has_signed = signed_is m bytes opened;
        members = reported.members;
        as_signed = whole_as_signed m bytes opened _ _ (object_unfaulted _ _ _ _ _ _ reported.members.is_signature);
      },
      reported.written,
    )
