use Rattle.std.proofs.Common.{◌∙◌, ℕ, List, ap, length, map, refl}
use Rattle.std.proofs.lemmas.Result.{IfOk-weaker}
use Rattle.mach_parts.specs.Segment.{segment_view}
use Rattle.mach_parts.specs.declared.segment.Segment.{Segment}
use Rattle.goblin_mach.specs.OpenImage.{segments_view}
use Rattle.goblin_mach.specs.AllStretches.{parts_of}
use Rattle.goblin_mach.proofs.addresses.segments.AllStretches.of_image.Goals as goal

pub returns : goal.returns
returns g c = λ bytes o p.
    let held = segments_view c.args.image.now in
    let has = (c.segments_of_image.ensures.lossy bytes o p held).1 refl in
    let many = ap length (c.bytes-room.ensures ∙ p.fields.bytes_is) in
    let all = ap (λ (ss : List Segment). parts_of (length c.bytes-room.result.now) (map segment_view ss)) c.as_slice.ensures
    ∙ ap (λ (n : ℕ). parts_of n held) many in
    IfOk-weaker c.of_segments.result _ _ (λ parts reported. (held, has, reported ∙ all)) c.of_segments.ensures
