-- The position in the weak binds of an image, and the weak binds after it.
use Rattle.std.specs.Prelude.{◌≡◌, ℕ, List, [], Option, Some, None, Result, drop, take}
use Rattle.std.specs.declared.alloc.Global.{Global}
use Rattle.mach_base.specs.Context.{pointer_size}
use Rattle.mach_base.specs.Fault.{Fault}
use Rattle.mach_base.specs.declared.context.Ctx.{Ctx}
use Rattle.mach_load.specs.Command.{Command}
use Rattle.mach_parts.specs.Segment.{SegmentView}
use Rattle.mach_dyld.specs.Sites.{Site}
use Rattle.mach_dyld.specs.Streams.{Input}
use Rattle.mach_dyld.specs.declared.imports.cursor.BindCursor.{BindCursor}
use Rattle.mach_dyld.specs.Cut.{CutStream, cut_input, cut_range}
use Rattle.mach_dyld.specs.WeakBinds.{WeakBind}
use Rattle.goblin_mach.specs.Facts.{OfImage}
use Rattle.goblin_mach.specs.ImageStreams.{AreImageWeakBinds, weak_stream_in}
use Rattle.goblin_mach.specs.OpenImage.{bytes_view, commands_view, ctx_view, segments_view}
use Rattle.goblin_mach.specs.Subjects.{lossy_segments_in}
use Rattle.goblin_mach.specs.declared.macho.MachO.{MachO}
use Rattle.mach_c_places.specs.WeakCursors.{AreWeakSites, IsOverWeakBinds, weak_binds_after, weak_sites_after, weak_sites_left, weak_walk_left}
use Rattle.mach_c_places.specs.declared.weak_binds.WeakBindWalk.{WeakBindWalk}
use Rattle.goblin_mach_c.specs.BindingPlaces.{places_of}
use Rattle.goblin_mach_c.specs.Say.{FillsBy}
use Rattle.goblin_mach_c.specs.Sited.{placed}
use Rattle.goblin_mach_c.specs.Stage.{Stage, start, under_way, over, stage_of}
use Rattle.goblin_mach_c.specs.WeakRows.{IsWeakRow}
use Rattle.goblin_mach_c.specs.declared.imports.gm_bind_cursor.{gm_bind_cursor}
use Rattle.goblin_mach_c.specs.declared.weak_binds.WeakRows.{WeakRows}
use Rattle.goblin_mach_c.specs.declared.weak_binds.gm_weak_bind.{gm_weak_bind}

-- What weak binds are read from: the bytes, the stream of opcodes in them, the size of a pointer in bytes, and the segments.
pub record WeakSource : Type 0 where
  pub bytes : List ℕ
  pub stream : Option CutStream
  pub pointer : ℕ
  pub segments : List SegmentView

-- the source of an opened image
abbrev pub weak_source_of : MachO Global → WeakSource
weak_source_of m = record {
  bytes = bytes_view m;
  stream = weak_stream_in (bytes_view m) (commands_view m);
  pointer = pointer_size (ctx_view m).container;
  segments = segments_view m;
}

-- the source of the commands of some bytes
abbrev pub weak_source_there : Ctx → List ℕ → List Command → WeakSource
weak_source_there ctx bytes cs = record {
  bytes = bytes;
  stream = weak_stream_in bytes cs;
  pointer = pointer_size ctx.container;
  segments = lossy_segments_in ctx bytes cs;
}

abbrev pub weak_input : WeakSource → CutStream → Input
weak_input x s = cut_input s x.pointer x.segments

-- ---- the weak binds after a cursor

-- those after a place of the stream; none if there is no stream
abbrev pub weak_following : BindCursor → Option CutStream → WeakSource → List (Result WeakBind Fault)
weak_following c None x = []
weak_following c (Some s) x = weak_binds_after (weak_input x s) (cut_range s) c

-- the weak binds at a stage: at the start all of them
abbrev pub AreWeakBindsAtStage : Stage → BindCursor → WeakSource → List (Result WeakBind Fault) → Type 0
AreWeakBindsAtStage start c x items = AreImageWeakBinds x.stream x.pointer x.segments items
AreWeakBindsAtStage under_way c x items = items ≡ weak_following c x.stream x
AreWeakBindsAtStage over c x items = items ≡ []

-- those after a cursor
abbrev pub AreWeakBindsAfter : gm_bind_cursor → WeakSource → List (Result WeakBind Fault) → Type 0
AreWeakBindsAfter c x items = AreWeakBindsAtStage (stage_of c.stage) c.binds x items

-- ---- where their names are

abbrev pub weak_sites_of : BindCursor → Option CutStream → WeakSource → List Site
weak_sites_of c None x = []
weak_sites_of c (Some s) x = weak_sites_after (weak_input x s) (cut_range s) c

-- of all of them
abbrev pub AreAllWeakSites : Option CutStream → WeakSource → List Site → Type 0
AreAllWeakSites None x sites = sites ≡ []
AreAllWeakSites (Some s) x sites = AreWeakSites (weak_input x s) (cut_range s) sites

abbrev pub AreWeakSitesAtStage : Stage → BindCursor → WeakSource → List Site → Type 0
AreWeakSitesAtStage start c x sites = AreAllWeakSites x.stream x sites
AreWeakSitesAtStage under_way c x sites = sites ≡ weak_sites_of c x.stream x
AreWeakSitesAtStage over c x sites = sites ≡ []

abbrev pub AreWeakSitesAfter : gm_bind_cursor → WeakSource → List Site → Type 0
AreWeakSitesAfter c x sites = AreWeakSitesAtStage (stage_of c.stage) c.binds x sites

-- ---- what is written

-- the weak binds after a cursor, each with the place of its own name
pub record AreWeakPlacedAfter (c : gm_bind_cursor) (x : WeakSource) (items : List (Result (WeakBind × ℕ) Fault)) : Type 0 where
  pub rows : List (Result WeakBind Fault)
  pub sites : List Site
  pub following : AreWeakBindsAfter c x rows
  pub sites_after : AreWeakSitesAfter c x sites
  pub are : items ≡ placed rows (places_of sites)

-- The rows of the weak binds after a cursor were written, as many as there are and fit, and the others come after the new cursor.
pub record AreWeakBindsWritten (x : WeakSource) (before after : gm_bind_cursor) (old new : List gm_weak_bind) (n : ℕ) : Type 0 where
  pub items : List (Result (WeakBind × ℕ) Fault)
  pub following : AreWeakPlacedAfter before x items
  pub rows : FillsBy (IsWeakRow x.bytes) items old new n
  pub rest : AreWeakPlacedAfter after x (drop n items)

-- the weak binds of the image at o after a cursor
abbrev pub HasWeakBindsAfter : List ℕ → ℕ → gm_bind_cursor → List (Result WeakBind Fault) → Type 0
HasWeakBindsAfter bytes o c items = OfImage bytes o (λ ctx cs. AreWeakBindsAfter c (weak_source_there ctx bytes cs) items)

-- the rows of the weak binds of the image at o were written
abbrev pub WritesWeakBinds : List ℕ → ℕ → (before after : gm_bind_cursor) → (old new : List gm_weak_bind) → ℕ → Type 0
WritesWeakBinds bytes o before after old new n = OfImage bytes o (λ ctx cs. AreWeakBindsWritten (weak_source_there ctx bytes cs) before after old new n)

-- ---- what is left for the rows

abbrev pub weak_left_by : Option WeakBindWalk → List (Result WeakBind Fault)
weak_left_by None = []
weak_left_by (Some it) = weak_walk_left it

abbrev pub weak_sites_by : Option WeakBindWalk → List Site
weak_sites_by None = []
weak_sites_by (Some it) = weak_sites_left it

abbrev pub weak_rows_left : WeakRows → List (Result (WeakBind × ℕ) Fault)
weak_rows_left it = placed (weak_left_by it.walk) (places_of (weak_sites_by it.walk))

-- the walk reads a stream that is a prefix of the bytes
abbrev pub IsOverWeak : WeakSource → Option WeakBindWalk → Type 0
IsOverWeak x None = Unit {0}
IsOverWeak x (Some it) =
    (s : CutStream) × (n : ℕ) × (x.stream ≡ Some s) × (s.bytes ≡ take n x.bytes) × IsOverWeakBinds (weak_input x s) (cut_range s) it

-- the rows are read from this source
abbrev pub AreWeakRowsOver : WeakSource → WeakRows → Type 0
AreWeakRowsOver x it = IsOverWeak x it.walk
