use Rattle.std.proofs.Common.{◌∙◌, ℕ, List, Some, map, ap, refl, subst, sym}
use Rattle.mach_load.specs.Variants.{command_of}
use Rattle.mach_parts.specs.Segment.{segment_view}
use Rattle.goblin_mach.specs.ImageStreams.{weak_stream_in}
use Rattle.goblin_mach.specs.OpenImage.{bytes_view, commands_view}
use Rattle.mach_c_places.specs.Ranges.{range_view}
use Rattle.goblin_mach_c.specs.Stage.{start, under_way, stage_of}
use Rattle.goblin_mach_c.specs.WeakBindsAfter.{AreWeakBindsAtStage, AreWeakSitesAtStage, IsOverWeak, WeakSource, weak_left_by, weak_sites_by, weak_source_of}
use Rattle.goblin_mach_c.proofs.FrontStreams.{weak_is_front}
use Rattle.goblin_mach_c.proofs.StreamStages.{no_weak_binds, no_weak_sites, weak_found}
use Rattle.goblin_mach_c.proofs.weak_binds.walk_after.Goals as goal

pub returns-in_default-clause-items : goal.returns-in_default-clause-items
returns-in_default-clause-items c =
    let m = c.args.image.now in
    let stream = c.in_default.ensures ∙ ap (λ (b : List ℕ). weak_stream_in b (map command_of c.as_slice.result.now)) c.bytes-bytes.ensures
    ∙ ap (λ l. weak_stream_in (bytes_view m) (map command_of l)) c.as_slice.ensures.value in
    no_weak_binds (stage_of c.args.cursor.now.stage) c.args.cursor.now.binds (weak_source_of m) stream

pub returns-in_default-clause-sites : goal.returns-in_default-clause-sites
returns-in_default-clause-sites c =
    let m = c.args.image.now in
    let stream = c.in_default.ensures ∙ ap (λ (b : List ℕ). weak_stream_in b (map command_of c.as_slice.result.now)) c.bytes-bytes.ensures
    ∙ ap (λ l. weak_stream_in (bytes_view m) (map command_of l)) c.as_slice.ensures.value in
    no_weak_sites (stage_of c.args.cursor.now.stage) c.args.cursor.now.binds (weak_source_of m) stream

pub returns-in-0-clause-items : goal.returns-in-0-clause-items
returns-in-0-clause-items c =
    let m = c.args.image.now in
    let stream = c.in-Some.ensures ∙ ap (λ (b : List ℕ). weak_stream_in b (map command_of c.as_slice.result.now)) c.bytes-bytes.ensures
    ∙ ap (λ l. weak_stream_in (bytes_view m) (map command_of l)) c.as_slice.ensures.value in
    let r = range_view c.in-Some.range in
    let segments = ap (map segment_view) c.as_slice-segments.ensures in
    let same = weak_found m r c.ctx-ctx.result (map segment_view c.as_slice-segments.result.now) stream c.ctx-ctx.ensures segments in
    let at = c.args.cursor.now in
    subst (λ (n : ℕ). AreWeakBindsAtStage (stage_of n) at.binds (weak_source_of m) (weak_left_by (Some c.start.result))) (sym c.in-0.is)
    (subst (λ (x : WeakSource). AreWeakBindsAtStage start at.binds x (weak_left_by (Some c.start.result))) same c.start.ensures.items)

pub returns-in-0-clause-sites : goal.returns-in-0-clause-sites
returns-in-0-clause-sites c =
    let m = c.args.image.now in
    let stream = c.in-Some.ensures ∙ ap (λ (b : List ℕ). weak_stream_in b (map command_of c.as_slice.result.now)) c.bytes-bytes.ensures
    ∙ ap (λ l. weak_stream_in (bytes_view m) (map command_of l)) c.as_slice.ensures.value in
    let r = range_view c.in-Some.range in
    let segments = ap (map segment_view) c.as_slice-segments.ensures in
    let same = weak_found m r c.ctx-ctx.result (map segment_view c.as_slice-segments.result.now) stream c.ctx-ctx.ensures segments in
    let at = c.args.cursor.now in
    subst (λ (n : ℕ). AreWeakSitesAtStage (stage_of n) at.binds (weak_source_of m) (weak_sites_by (Some c.start.result))) (sym c.in-0.is)
    (subst (λ (x : WeakSource). AreWeakSitesAtStage start at.binds x (weak_sites_by (Some c.start.result))) same c.start.ensures.sites)

pub returns-in-0-clause-over : goal.returns-in-0-clause-over
returns-in-0-clause-over c =
    let m = c.args.image.now in
    let stream = c.in-Some.ensures ∙ ap (λ (b : List ℕ). weak_stream_in b (map command_of c.as_slice.result.now)) c.bytes-bytes.ensures
    ∙ ap (λ l. weak_stream_in (bytes_view m) (map command_of l)) c.as_slice.ensures.value in
    let r = range_view c.in-Some.range in
    let segments = ap (map segment_view) c.as_slice-segments.ensures in
    let same = weak_found m r c.ctx-ctx.result (map segment_view c.as_slice-segments.result.now) stream c.ctx-ctx.ensures segments in
    let front = weak_is_front (bytes_view m) (commands_view m) r (sym stream) in
    subst (λ (x : WeakSource). IsOverWeak x (Some c.start.result)) same (r, front.0, refl, front.1, c.start.ensures.over)

pub returns-in-1-clause-items : goal.returns-in-1-clause-items
returns-in-1-clause-items c =
    let m = c.args.image.now in
    let stream = c.in-Some.ensures ∙ ap (λ (b : List ℕ). weak_stream_in b (map command_of c.as_slice.result.now)) c.bytes-bytes.ensures
    ∙ ap (λ l. weak_stream_in (bytes_view m) (map command_of l)) c.as_slice.ensures.value in
    let r = range_view c.in-Some.range in
    let segments = ap (map segment_view) c.as_slice-segments.ensures in
    let same = weak_found m r c.ctx-ctx.result (map segment_view c.as_slice-segments.result.now) stream c.ctx-ctx.ensures segments in
    let at = c.args.cursor.now in
    subst (λ (n : ℕ). AreWeakBindsAtStage (stage_of n) at.binds (weak_source_of m) (weak_left_by (Some c.following.result))) (sym c.in-1.is)
    (subst (λ (x : WeakSource). AreWeakBindsAtStage under_way at.binds x (weak_left_by (Some c.following.result))) same c.following.ensures.items)

pub returns-in-1-clause-sites : goal.returns-in-1-clause-sites
returns-in-1-clause-sites c =
    let m = c.args.image.now in
    let stream = c.in-Some.ensures ∙ ap (λ (b : List ℕ). weak_stream_in b (map command_of c.as_slice.result.now)) c.bytes-bytes.ensures
    ∙ ap (λ l. weak_stream_in (bytes_view m) (map command_of l)) c.as_slice.ensures.value in
    let r = range_view c.in-Some.range in
    let segments = ap (map segment_view) c.as_slice-segments.ensures in
    let same = weak_found m r c.ctx-ctx.result (map segment_view c.as_slice-segments.result.now) stream c.ctx-ctx.ensures segments in
    let at = c.args.cursor.now in
    subst (λ (n : ℕ). AreWeakSitesAtStage (stage_of n) at.binds (weak_source_of m) (weak_sites_by (Some c.following.result))) (sym c.in-1.is)
    (subst (λ (x : WeakSource). AreWeakSitesAtStage under_way at.binds x (weak_sites_by (Some c.following.result))) same c.following.ensures.sites)

pub returns-in-1-clause-over : goal.returns-in-1-clause-over
returns-in-1-clause-over c =
    let m = c.args.image.now in
    let stream = c.in-Some.ensures ∙ ap (λ (b : List ℕ). weak_stream_in b (map command_of c.as_slice.result.now)) c.bytes-bytes.ensures
    ∙ ap (λ l. weak_stream_in (bytes_view m) (map command_of l)) c.as_slice.ensures.value in
    let r = range_view c.in-Some.range in
    let segments = ap (map segment_view) c.as_slice-segments.ensures in
    let same = weak_found m r c.ctx-ctx.result (map segment_view c.as_slice-segments.result.now) stream c.ctx-ctx.ensures segments in
    let front = weak_is_front (bytes_view m) (commands_view m) r (sym stream) in
    subst (λ (x : WeakSource). IsOverWeak x (Some c.following.result)) same (r, front.0, refl, front.1, c.following.ensures.over)
