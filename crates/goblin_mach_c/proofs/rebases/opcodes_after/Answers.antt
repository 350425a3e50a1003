use Rattle.std.proofs.Common.{◌∙◌, ℕ, List, Some, map, ap, refl, subst, sym}
use Rattle.mach_load.specs.Variants.{command_of}
use Rattle.mach_parts.specs.Segment.{segment_view}
use Rattle.goblin_mach.specs.ImageStreams.{rebase_stream_in}
use Rattle.goblin_mach.specs.OpenImage.{bytes_view}
use Rattle.mach_c_places.specs.Ranges.{range_view}
use Rattle.goblin_mach_c.specs.Stage.{start, under_way, stage_of}
use Rattle.goblin_mach_c.specs.RebasesAfter.{AreRebasesAtStage, IsOverOpcodes, RebaseSource, opcodes_left_by, rebase_source_of}
use Rattle.goblin_mach_c.proofs.StreamStages.{no_rebases, rebases_found}
use Rattle.goblin_mach_c.proofs.rebases.opcodes_after.Goals as goal

pub returns-in_default-clause-items : goal.returns-in_default-clause-items
returns-in_default-clause-items c =
    let m = c.args.image.now in
    let stream = c.in_default.ensures ∙ ap (λ (b : List ℕ). rebase_stream_in b (map command_of c.as_slice.result.now)) c.bytes-bytes.ensures
    ∙ ap (λ l. rebase_stream_in (bytes_view m) (map command_of l)) c.as_slice.ensures.value in
    no_rebases (stage_of c.args.cursor.now.stage) c.args.cursor.now.binds (rebase_source_of m) stream

pub returns-in-0-clause-items : goal.returns-in-0-clause-items
returns-in-0-clause-items c =
    let m = c.args.image.now in
    let stream = c.in-Some.ensures ∙ ap (λ (b : List ℕ). rebase_stream_in b (map command_of c.as_slice.result.now)) c.bytes-bytes.ensures
    ∙ ap (λ l. rebase_stream_in (bytes_view m) (map command_of l)) c.as_slice.ensures.value in
    let r = range_view c.in-Some.range in
    let segments = ap (map segment_view) c.as_slice-segments.ensures in
    let same = rebases_found m r c.ctx-ctx.result (map segment_view c.as_slice-segments.result.now) stream c.ctx-ctx.ensures segments in
    let at = c.args.cursor.now in
    subst (λ (n : ℕ). AreRebasesAtStage (stage_of n) at.binds (rebase_source_of m) (opcodes_left_by (Some c.start.result))) (sym c.in-0.is)
    (subst (λ (x : RebaseSource). AreRebasesAtStage start at.binds x (opcodes_left_by (Some c.start.result))) same c.start.ensures.items)

pub returns-in-0-clause-over : goal.returns-in-0-clause-over
returns-in-0-clause-over c =
    let m = c.args.image.now in
    let stream = c.in-Some.ensures ∙ ap (λ (b : List ℕ). rebase_stream_in b (map command_of c.as_slice.result.now)) c.bytes-bytes.ensures
    ∙ ap (λ l. rebase_stream_in (bytes_view m) (map command_of l)) c.as_slice.ensures.value in
    let r = range_view c.in-Some.range in
    let segments = ap (map segment_view) c.as_slice-segments.ensures in
    let same = rebases_found m r c.ctx-ctx.result (map segment_view c.as_slice-segments.result.now) stream c.ctx-ctx.ensures segments in
    subst (λ (x : RebaseSource). IsOverOpcodes x (Some c.start.result)) same (r, refl, c.start.ensures.over)

pub returns-in-1-clause-items : goal.returns-in-1-clause-items
returns-in-1-clause-items c =
    let m = c.args.image.now in
    let stream = c.in-Some.ensures ∙ ap (λ (b : List ℕ). rebase_stream_in b (map command_of c.as_slice.result.now)) c.bytes-bytes.ensures
    ∙ ap (λ l. rebase_stream_in (bytes_view m) (map command_of l)) c.as_slice.ensures.value in
    let r = range_view c.in-Some.range in
    let segments = ap (map segment_view) c.as_slice-segments.ensures in
    let same = rebases_found m r c.ctx-ctx.result (map segment_view c.as_slice-segments.result.now) stream c.ctx-ctx.ensures segments in
    let at = c.args.cursor.now in
    subst (λ (n : ℕ). AreRebasesAtStage (stage_of n) at.binds (rebase_source_of m) (opcodes_left_by (Some c.following.result))) (sym c.in-1.is)
    (subst (λ (x : RebaseSource). AreRebasesAtStage under_way at.binds x (opcodes_left_by (Some c.following.result))) same c.following.ensures.items)

pub returns-in-1-clause-over : goal.returns-in-1-clause-over
returns-in-1-clause-over c =
    let m = c.args.image.now in
    let stream = c.in-Some.ensures ∙ ap (λ (b : List ℕ). rebase_stream_in b (map command_of c.as_slice.result.now)) c.bytes-bytes.ensures
    ∙ ap (λ l. rebase_stream_in (bytes_view m) (map command_of l)) c.as_slice.ensures.value in
    let r = range_view c.in-Some.range in
    let segments = ap (map segment_view) c.as_slice-segments.ensures in
    let same = rebases_found m r c.ctx-ctx.result (map segment_view c.as_slice-segments.result.now) stream c.ctx-ctx.ensures segments in
    subst (λ (x : RebaseSource). IsOverOpcodes x (Some c.following.result)) same (r, refl, c.following.ensures.over)
