use Rattle.std.proofs.Common.{map, refl, ap}
use Rattle.mach_base.specs.Text.{texts}
use Rattle.mach_parts.specs.Segment.{segment_view}
use Rattle.goblin_mach_c.specs.BindingsAfter.{source_of}
use Rattle.goblin_mach_c.proofs.PlacedBindings.{whole}
use Rattle.goblin_mach_c.proofs.bindings.BindingRows.following.Goals as goal

pub returns-clause-placed : goal.returns-clause-placed
returns-clause-placed c =
    whole (source_of c.args.image.now) c.args.cursor.now _ _ _ _ _ _ c.following.ensures.over (ap texts c.as_slice.ensures.value)
    (ap (map segment_view) c.as_slice-2.ensures) c.base.ensures c.chains_at.ensures.place c.opcodes_after.ensures.items c.opcodes_after.ensures.sites
    c.following.ensures.items

pub returns-clause-over : goal.returns-clause-over
returns-clause-over c = λ occur short. record {
  opcodes = c.opcodes_after.ensures.over (source_of c.args.image.now) refl occur;
  fixups = c.following.ensures.over;
  libs = ap texts c.as_slice.ensures.value;
  segments = ap (map segment_view) c.as_slice-2.ensures;
  base = c.base.ensures;
  chains = c.chains_at.ensures.occur;
  chains_at = c.chains_at.ensures.place;
  short = short;
}
