use Rattle.std.proofs.Common.{◌≡◌, refl}
use Rattle.mach_base.proofs.Written.{Appends-both}
use Rattle.goblin_mach.proofs.ImageFacts.{facts_are}
use Rattle.goblin_mach.specs.ImageFacts.{Facts, facts_view}
use Rattle.goblin_mach.specs.OpenImage.{bytes_view, commands_view}
use Rattle.mach_signature.proofs.SignedFacts.{directory_is}
use Rattle.mach_signature.specs.SignedImages.{image_directory}
use Rattle.machinfo.proofs.json.write_summary.Goals as goal

pub returns : goal.returns
returns g c = λ bytes opened.
    let m = c.args.image.now in
    let there = image_directory (bytes_view m) (commands_view m) in
    let front = c.in_ok-front.ensures.written in
    let counted = c.in_ok-counts.ensures bytes opened in (
      _,
      record {
        opens = (opened.ctx, commands_view m, opened.opens);
        facts = facts_view m;
        has_facts = (facts_are bytes 0 m opened (λ (f : Facts). facts_view m ≡ f)).1 refl;
        there = there;
        has_directory = ((directory_is m).lossy bytes 0 opened there).1 refl;
        front = front.text;
        front_whole = c.in_ok-front.front;
        is_front_whole = c.in_ok-front.ensures.status bytes opened;
        counts = counted.0;
        counts_whole = c.in_ok-counts.counts;
        are_counts = counted.1;
        is_text = refl;
        is_whole = refl;
        is_rest = refl;
      },
      Appends-both _ _ _ front.text _ front.written
          (Appends-both _ _ _ _ _ c.in_ok-write.ensures.bytes
          (Appends-both _ _ _ counted.0 _ counted.2 c.in_ok-end_counts.ensures)),
    )
