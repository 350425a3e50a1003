use Rattle.mach_dyld.proofs.BindNames.{◌∙◌, map, ap, refl, subst, sym, pointer_size, items_of, reads_of, reader_by, start_of, state_of, State}
use Rattle.mach_parts.specs.Segment.{segment_view}
use Rattle.mach_dyld.specs.Sites.{Site, no_site, sites_of}
use Rattle.mach_dyld.proofs.StreamStarts.{starts_alone}
use Rattle.mach_dyld.specs.Cut.{cut_input, cut_range}
use Rattle.mach_dyld.specs.WeakBinds.{weak_binds_in}
use Rattle.mach_dyld.specs.WeakBindsLeft.{first_weak, weak_rules}
use Rattle.mach_dyld.specs.StreamsMove.{weak_reads}
use Rattle.mach_dyld.specs.declared.weak_binds.WeakBindSettings.{WeakBindSettings}
use Rattle.mach_dyld.proofs.WeakRun.{weak_at_start}
use Rattle.mach_c_places.specs.Ranges.{range_view}
use Rattle.mach_c_places.specs.WeakCursors.{AreWeakSites}
use Rattle.mach_c_places.proofs.AloneSites.{alone_sites}
use Rattle.mach_c_places.proofs.weak_binds.WeakBindWalk.start.Goals as goal

pub returns-clause-items : goal.returns-clause-items
returns-clause-items c =
    let s = range_view c.args.range.now in
    let x = cut_input s (pointer_size c.args.ctx.container) (map segment_view c.args.segments.now) in
    let r = cut_range s in
    let items = c.stream.ensures.items ∙ ap (λ (t : State). items_of weak_rules x r c.first-first.result t) c.start-state.ensures.state
    ∙ ap (λ (m : WeakBindSettings). items_of weak_rules x r m (start_of r)) c.first-first.ensures in
    let found = starts_alone weak_rules weak_reads x r r refl first_weak (weak_binds_in x r) (weak_at_start x r) _
    (reads_of weak_rules x r (start_of r)) items refl in
    (found.0, found.1)

pub returns-clause-sites : goal.returns-clause-sites
returns-clause-sites c =
    let s = range_view c.args.range.now in
    let x = cut_input s (pointer_size c.args.ctx.container) (map segment_view c.args.segments.now) in
    let r = cut_range s in
    let sites = c.stream.ensures.sites
    ∙ ap (λ (n : Site). sites_of (reader_by weak_rules x) r n (state_of c.start-state.result)) c.start-state.ensures.site
    ∙ ap (λ (t : State). sites_of (reader_by weak_rules x) r no_site t) c.start-state.ensures.state in
    subst (AreWeakSites x r) (sym sites) (alone_sites (reader_by weak_rules x) r (λ q. weak_reads.moves q x.pointer x.bytes) refl)
