-- The items at a stage of an opened image's streams, by the range that its commands place.
use Rattle.std.proofs.Common.{◌≡◌, ◌∙◌, [], ℕ, List, Option, Some, None, Result, refl, ap}
use Rattle.std.specs.declared.alloc.Global.{Global}
use Rattle.mach_base.specs.Context.{pointer_size}
use Rattle.mach_base.specs.Fault.{Fault}
use Rattle.mach_base.specs.declared.context.Ctx.{Ctx}
use Rattle.mach_base.specs.declared.context.Endian.{Endian}
use Rattle.mach_parts.specs.Segment.{SegmentView}
use Rattle.mach_chained.specs.Header.{Fixups}
use Rattle.mach_dyld.specs.declared.imports.cursor.BindCursor.{BindCursor}
use Rattle.mach_dyld.specs.Cut.{CutStream}
use Rattle.goblin_mach.specs.Fixups.{chained_view}
use Rattle.goblin_mach.specs.ImageStreams.{rebase_stream_in, weak_stream_in}
use Rattle.goblin_mach.specs.OpenImage.{bytes_view, commands_view, ctx_view, segments_view}
use Rattle.goblin_mach.specs.declared.macho.MachO.{MachO}
use Rattle.goblin_mach_c.specs.RebasesAfter.{AreRebasesAtStage, RebaseSource, rebase_source_of}
use Rattle.goblin_mach_c.specs.Stage.{Stage, start, under_way, over}
use Rattle.goblin_mach_c.specs.WeakBindsAfter.{AreWeakBindsAtStage, AreWeakSitesAtStage, WeakSource, weak_source_of}

-- ---- weak binds

abbrev pub weak_over : List ℕ → Option CutStream → ℕ → List SegmentView → WeakSource
weak_over bytes stream pointer segments = record { bytes = bytes; stream = stream; pointer = pointer; segments = segments }

pub weak_found : (m : MachO Global) (r : CutStream) (k : Ctx) (g : List SegmentView) → Some r ≡ weak_stream_in (bytes_view m) (commands_view m)
    → k ≡ ctx_view m → g ≡ segments_view m → weak_over (bytes_view m) (Some r) (pointer_size k.container) g ≡ weak_source_of m
weak_found m r k g stream ctx segments =
    ap (λ (v : Option CutStream). weak_over (bytes_view m) v (pointer_size k.container) g) stream
    ∙ ap (λ (v : Ctx). weak_over (bytes_view m) (weak_stream_in (bytes_view m) (commands_view m)) (pointer_size v.container) g) ctx
    ∙ ap (λ (v : List SegmentView). weak_over (bytes_view m) (weak_stream_in (bytes_view m) (commands_view m)) (pointer_size (ctx_view m).container) v) segments

pub no_weak_binds : (t : Stage) (c : BindCursor) (x : WeakSource) → None ≡ x.stream → AreWeakBindsAtStage t c x []
no_weak_binds t c x none = at t c x.bytes x.stream x.pointer x.segments none
  where
    at : (t : Stage) (c : BindCursor) (bytes : List ℕ) (s : Option CutStream) (p : ℕ) (g : List SegmentView) → None ≡ s
        → AreWeakBindsAtStage t c (weak_over bytes s p g) []
    at start c bytes None p g e = refl
    at under_way c bytes None p g e = refl
    at over c bytes None p g e = refl
    at t c bytes (Some s) p g e = absurd (cc)

pub no_weak_sites : (t : Stage) (c : BindCursor) (x : WeakSource) → None ≡ x.stream → AreWeakSitesAtStage t c x []
no_weak_sites t c x none = at t c x.bytes x.stream x.pointer x.segments none
  where
    at : (t : Stage) (c : BindCursor) (bytes : List ℕ) (s : Option CutStream) (p : ℕ) (g : List SegmentView) → None ≡ s
        → AreWeakSitesAtStage t c (weak_over bytes s p g) []
    at start c bytes None p g e = refl
    at under_way c bytes None p g e = refl
    at over c bytes None p g e = refl
    at t c bytes (Some s) p g e = absurd (cc)

-- ---- rebases

abbrev pub rebases_over : Option CutStream → Result (Option Fixups) Fault → Endian → ℕ → List SegmentView → RebaseSource
rebases_over stream chained le pointer segments = record { stream = stream; chained = chained; le = le; pointer = pointer; segments = segments }

pub rebases_found : (m : MachO Global) (r : CutStream) (k : Ctx) (g : List SegmentView) → Some r ≡ rebase_stream_in (bytes_view m) (commands_view m)
    → k ≡ ctx_view m → g ≡ segments_view m → rebases_over (Some r) (chained_view m) k.le (pointer_size k.container) g ≡ rebase_source_of m
rebases_found m r k g stream ctx segments =
    let s = rebase_stream_in (bytes_view m) (commands_view m) in
    ap (λ (v : Option CutStream). rebases_over v (chained_view m) k.le (pointer_size k.container) g) stream
    ∙ ap (λ (v : Ctx). rebases_over s (chained_view m) v.le (pointer_size v.container) g) ctx
    ∙ ap (λ (v : List SegmentView). rebases_over s (chained_view m) (ctx_view m).le (pointer_size (ctx_view m).container) v) segments

pub no_rebases : (t : Stage) (c : BindCursor) (x : RebaseSource) → None ≡ x.stream → AreRebasesAtStage t c x []
no_rebases t c x none = at t c x.stream x.chained x.le x.pointer x.segments none
  where
    at : (t : Stage) (c : BindCursor) (s : Option CutStream) (chained : Result (Option Fixups) Fault) (le : Endian) (p : ℕ) (g : List SegmentView) → None ≡ s
        → AreRebasesAtStage t c (rebases_over s chained le p g) []
    at start c None chained le p g e = refl
    at under_way c None chained le p g e = refl
    at over c None chained le p g e = refl
    at t c (Some s) chained le p g e = absurd (cc)
