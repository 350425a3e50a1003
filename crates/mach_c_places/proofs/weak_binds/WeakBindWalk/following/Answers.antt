use Rattle.mach_dyld.proofs.BindNames.{◌∙◌, map, ap, pointer_size, items_of, reader_by, State, state_of}
use Rattle.mach_parts.specs.Segment.{segment_view}
use Rattle.mach_dyld.specs.SiteCursors.{site_view}
use Rattle.mach_dyld.specs.Sites.{Site, sites_of}
use Rattle.mach_dyld.specs.Cut.{cut_input, cut_range}
use Rattle.mach_dyld.specs.WeakBindsLeft.{weak_rules}
use Rattle.mach_dyld.specs.declared.weak_binds.WeakBindSettings.{WeakBindSettings}
use Rattle.mach_c_places.specs.Ranges.{range_view}
use Rattle.mach_c_places.specs.WeakCursors.{weak_more_in}
use Rattle.mach_c_places.proofs.weak_binds.WeakBindWalk.following.Goals as goal

pub returns-clause-items : goal.returns-clause-items
returns-clause-items c =
    let s = range_view c.args.range.now in
    let x = cut_input s (pointer_size c.args.ctx.container) (map segment_view c.args.segments.now) in
    let r = cut_range s in
    c.stream.ensures.items
    ∙ ap (λ (m : WeakBindSettings). items_of weak_rules x r m (state_of c.state_at-state.result)) c.extra_at.ensures
    ∙ ap (λ (t : State). items_of weak_rules x r (weak_more_in c.args.cursor.now) t) c.state_at-state.ensures.state

pub returns-clause-sites : goal.returns-clause-sites
returns-clause-sites c =
    let s = range_view c.args.range.now in
    let x = cut_input s (pointer_size c.args.ctx.container) (map segment_view c.args.segments.now) in
    let r = cut_range s in
    c.stream.ensures.sites
    ∙ ap (λ (n : Site). sites_of (reader_by weak_rules x) r n (state_of c.state_at-state.result)) c.state_at-state.ensures.site
    ∙ ap (λ (t : State). sites_of (reader_by weak_rules x) r (site_view s.bytes c.args.cursor.now) t) c.state_at-state.ensures.state
