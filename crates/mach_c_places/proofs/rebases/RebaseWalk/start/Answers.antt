use Rattle.mach_dyld.proofs.BindNames.{◌∙◌, map, ap, refl, pointer_size, items_of, reads_of, start_of, State}
use Rattle.mach_parts.specs.Segment.{segment_view}
use Rattle.mach_dyld.proofs.StreamStarts.{starts_alone}
use Rattle.mach_dyld.specs.Cut.{cut_input, cut_range}
use Rattle.mach_dyld.specs.Rebases.{rebases_in}
use Rattle.mach_dyld.specs.RebasesLeft.{first_rebasing, rebase_rules}
use Rattle.mach_dyld.specs.StreamsMove.{rebase_reads}
use Rattle.mach_dyld.proofs.RebaseRun.{rebases_at_start}
use Rattle.mach_c_places.specs.Ranges.{range_view}
use Rattle.mach_c_places.proofs.rebases.RebaseWalk.start.Goals as goal

pub returns-clause-items : goal.returns-clause-items
returns-clause-items c =
    let s = range_view c.args.range.now in
    let le = c.args.ctx.le in
    let x = cut_input s (pointer_size c.args.ctx.container) (map segment_view c.args.segments.now) in
    let r = cut_range s in
    let items = c.stream.ensures.items ∙ ap (λ (t : State). items_of rebase_rules x r (first_rebasing le) t) c.start-state.ensures.state in
    let found = starts_alone rebase_rules rebase_reads x r r refl (first_rebasing le) (rebases_in x le r) (rebases_at_start x le r) _
    (reads_of rebase_rules x r (start_of r)) items refl in
    (found.0, found.1)
