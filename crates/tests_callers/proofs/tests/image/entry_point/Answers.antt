use Rattle.std.proofs.Common.{refl}
use Rattle.tests_callers.proofs.tests.image.entry_point.Goals as goal

pub returns : goal.returns
returns c =
    let image = c.in_ok-image.image in (
      image.old_style_entry,
      (c.entry_point_of_image.ensures.strict c.args.bytes.now 0 c.in_ok-image.ensures.opened
          (record { address = image.entry; old_style = image.old_style_entry })).1 refl,
    )
