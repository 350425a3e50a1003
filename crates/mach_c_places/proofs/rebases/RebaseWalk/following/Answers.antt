use Rattle.mach_dyld.proofs.BindNames.{◌∙◌, map, ap, pointer_size, items_of, State, state_of}
use Rattle.mach_parts.specs.Segment.{segment_view}
use Rattle.mach_dyld.specs.Cut.{cut_input, cut_range}
use Rattle.mach_dyld.specs.RebasesLeft.{rebase_rules}
use Rattle.mach_dyld.specs.declared.rebases.Rebasing.{Rebasing}
use Rattle.mach_c_places.specs.RebaseCursors.{rebasing_in}
use Rattle.mach_c_places.specs.Ranges.{range_view}
use Rattle.mach_c_places.proofs.rebases.RebaseWalk.following.Goals as goal

pub returns-clause-items : goal.returns-clause-items
returns-clause-items c =
    let s = range_view c.args.range.now in
    let x = cut_input s (pointer_size c.args.ctx.container) (map segment_view c.args.segments.now) in
    let r = cut_range s in
    c.stream.ensures.items
    ∙ ap (λ (m : Rebasing). items_of rebase_rules x r m (state_of c.state_at-state.result)) c.rebasing_at.ensures
    ∙ ap (λ (t : State). items_of rebase_rules x r (rebasing_in c.args.cursor.now) t) c.state_at-state.ensures.state
