use Rattle.mach_dyld.proofs.BindNames.{◌≡◌, ◌∙◌, List, length, map, ap, refl, subst, pointer_size, items_left, opcodes_left, items_of, reads_of, start_of}
use Rattle.mach_dyld.proofs.BindNames.{Input}
use Rattle.mach_dyld.proofs.BindNames.{Placed}
use Rattle.mach_parts.specs.Segment.{segment_view}
use Rattle.mach_dyld.proofs.StreamStarts.{starts_alone}
use Rattle.mach_dyld.specs.Cut.{CutStream, cut_input, cut_range}
use Rattle.mach_dyld.specs.CutViews.{cut_view}
use Rattle.mach_dyld.specs.WeakBinds.{AreWeakBinds, weak_binds_in}
use Rattle.mach_dyld.specs.WeakBindsLeft.{first_weak, weak_rules}
use Rattle.mach_dyld.specs.StreamsMove.{weak_reads}
use Rattle.mach_dyld.specs.declared.weak_binds.WeakBindSettings.{WeakBindSettings}
use Rattle.mach_dyld.proofs.WeakRun.{weak_at_start}
use Rattle.mach_dyld.proofs.weak_binds.WeakBindStream.iter.Goals as goal

pub returns : goal.returns
returns c =
    let segments = map segment_view c.args.segments.now in
    let pointer = pointer_size c.args.ctx.container in
    let s : CutStream = cut_view c.self.inside.cut in
    let x = cut_input s pointer segments in
    let r = cut_range s in
    let items = c.alone.ensures.items ∙ ap (λ (i : Input). items_of weak_rules i r c.first.result (start_of r)) c.source.ensures
    ∙ ap (λ (m : WeakBindSettings). items_of weak_rules x r m (start_of r)) c.first.ensures in
    let reads = c.alone.ensures.reads ∙ ap (λ (i : Input). reads_of weak_rules i r (start_of r)) c.source.ensures in
    subst (λ (t : CutStream).
    (ps : List Placed) × AreWeakBinds (cut_input t pointer segments) (cut_range t) ps (items_left weak_rules c.alone.result)
    × (opcodes_left weak_rules c.alone.result ≡ length ps)) c.self.view_is
    (starts_alone weak_rules weak_reads x r r refl first_weak (weak_binds_in x r) (weak_at_start x r) _ _ items reads)
