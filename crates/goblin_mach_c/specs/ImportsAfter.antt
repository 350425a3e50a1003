-- The position in the imports of an image, and the imports after it.
use Rattle.std.specs.Prelude.{◌≡◌, ℕ, List, [], Option, Some, None, Result, drop}
use Rattle.mach_base.specs.Context.{pointer_size}
use Rattle.mach_base.specs.Fault.{Fault}
use Rattle.mach_base.specs.declared.context.Ctx.{Ctx}
use Rattle.mach_load.specs.Command.{Command}
use Rattle.mach_parts.specs.Segment.{SegmentView}
use Rattle.mach_dyld.specs.BindCursors.{IsOverImports, imports_after}
use Rattle.mach_dyld.specs.BindLeft.{imports_left}
use Rattle.mach_dyld.specs.Imports.{BindRanges, Import, input_in}
use Rattle.mach_dyld.specs.SiteCursors.{AreImportSites, import_sites_after, import_sites_left}
use Rattle.mach_dyld.specs.Sites.{Site}
use Rattle.mach_dyld.specs.declared.imports.cursor.BindCursor.{BindCursor}
use Rattle.goblin_mach.specs.Facts.{OfImage}
use Rattle.goblin_mach.specs.OpenImage.{binds_view, ctx_view, segments_view}
use Rattle.goblin_mach.specs.declared.macho.MachO.{MachO}
use Rattle.std.specs.declared.alloc.Global.{Global}
use Rattle.mach_base.specs.Text.{texts}
use Rattle.goblin_mach.specs.Subjects.{AreImageBindItems, binds_in, libs_in, lossy_segments_in}
use Rattle.goblin_mach_c.specs.ImportRows.{IsImportRow}
use Rattle.goblin_mach_c.specs.Say.{FillsBy}
use Rattle.goblin_mach_c.specs.Sited.{sited}
use Rattle.goblin_mach_c.specs.Stage.{Stage, start, under_way, over, stage_of}
use Rattle.goblin_mach_c.specs.declared.imports.gm_bind_cursor.{gm_bind_cursor}
use Rattle.goblin_mach_c.specs.declared.imports.gm_import.{gm_import}
use Rattle.goblin_mach_c.specs.declared.imports.ImportRows.{ImportRows}
use Rattle.goblin_mach_c.specs.declared.imports.ImportRows.TheVariants as rows

-- Binds, and what they are resolved with: the size of a pointer in bytes, the libraries by their ordinals, and the segments.
pub record Binds : Type 0 where
  pub ranges : Option BindRanges
  pub pointer : ℕ
  pub libs : List (List ℕ)
  pub segments : List SegmentView

-- those of an opened image
abbrev pub binds_of_image : MachO Global → Binds
binds_of_image m = record { ranges = binds_view m; pointer = pointer_size (ctx_view m).container; libs = texts m.libs.items; segments = segments_view m }

-- those of the commands of some bytes
abbrev pub binds_there : Ctx → List ℕ → List Command → Binds
binds_there ctx bytes cs =
    record { ranges = binds_in bytes cs; pointer = pointer_size ctx.container; libs = libs_in bytes cs; segments = lossy_segments_in ctx bytes cs }

-- the imports after a place of the streams; none if there are no binds
abbrev pub streams_after : BindCursor → Option BindRanges → Binds → List (Result Import Fault)
streams_after c None x = []
streams_after c (Some b) x = imports_after (input_in b x.pointer x.libs x.segments) b.lazy c

-- the imports at a stage: at the start all of them
abbrev pub AreImportsAtStage : Stage → BindCursor → Binds → List (Result Import Fault) → Type 0
AreImportsAtStage start c x items = AreImageBindItems x.ranges x.pointer x.libs x.segments items
AreImportsAtStage under_way c x items = items ≡ streams_after c x.ranges x
AreImportsAtStage over c x items = items ≡ []

-- those after a cursor
abbrev pub AreImportsAfter : gm_bind_cursor → Binds → List (Result Import Fault) → Type 0
AreImportsAfter c x items = AreImportsAtStage (stage_of c.stage) c.binds x items

-- the sites of the imports after a place of the streams
abbrev pub stream_sites_after : BindCursor → Option BindRanges → Binds → List Site
stream_sites_after c None x = []
stream_sites_after c (Some b) x = import_sites_after (input_in b x.pointer x.libs x.segments) b.lazy c

-- those of all of them
abbrev pub AreAllImportSites : Option BindRanges → Binds → List Site → Type 0
AreAllImportSites None x sites = sites ≡ []
AreAllImportSites (Some b) x sites = AreImportSites (input_in b x.pointer x.libs x.segments) b.non_lazy b.lazy sites

-- those at a stage
abbrev pub AreImportSitesAtStage : Stage → BindCursor → Binds → List Site → Type 0
AreImportSitesAtStage start c x sites = AreAllImportSites x.ranges x sites
AreImportSitesAtStage under_way c x sites = sites ≡ stream_sites_after c x.ranges x
AreImportSitesAtStage over c x sites = sites ≡ []

abbrev pub AreSitesAfter : gm_bind_cursor → Binds → List Site → Type 0
AreSitesAfter c x sites = AreImportSitesAtStage (stage_of c.stage) c.binds x sites

-- the imports after a cursor, each with its site
pub record AreSitedAfter (c : gm_bind_cursor) (x : Binds) (items : List (Result (Import × Site) Fault)) : Type 0 where
  pub imports : List (Result Import Fault)
  pub sites : List Site
  pub following : AreImportsAfter c x imports
  pub sites_after : AreSitesAfter c x sites
  pub are : items ≡ sited imports sites

-- The rows of the imports after a cursor were written, as many as there are and fit, and the others come after the new cursor.
pub record AreImportsWritten (bytes : List ℕ) (x : Binds) (before after : gm_bind_cursor) (old new : List gm_import) (n : ℕ) : Type 0 where
  pub items : List (Result (Import × Site) Fault)
  pub following : AreSitedAfter before x items
  pub rows : FillsBy (IsImportRow bytes x.libs) items old new n
  pub rest : AreSitedAfter after x (drop n items)

-- the binds of the image at o, over its libraries and its segments
abbrev pub OfBinds : List ℕ → ℕ → (Binds → Type 0) → Type 0
OfBinds bytes o Holds = OfImage bytes o (λ ctx cs. Holds (binds_there ctx bytes cs))

-- the imports of the image at o after a cursor
abbrev pub HasImportsAfter : List ℕ → ℕ → gm_bind_cursor → List (Result Import Fault) → Type 0
HasImportsAfter bytes o c items = OfBinds bytes o (λ x. AreImportsAfter c x items)

-- the rows of the imports of the image at o were written
abbrev pub WritesImports : List ℕ → ℕ → (before after : gm_bind_cursor) → (old new : List gm_import) → ℕ → Type 0
WritesImports bytes o before after old new n = OfBinds bytes o (λ x. AreImportsWritten bytes x before after old new n)

-- ---- what is left for the rows

abbrev pub imports_in_rows : ImportRows → List (Result Import Fault)
imports_in_rows rows.Nothing = []
imports_in_rows (rows.Binds it) = imports_left it

abbrev pub sites_in_rows : ImportRows → List Site
sites_in_rows rows.Nothing = []
sites_in_rows (rows.Binds it) = import_sites_left it

abbrev pub import_rows_left : ImportRows → List (Result (Import × Site) Fault)
import_rows_left it = sited (imports_in_rows it) (sites_in_rows it)

-- the rows are read from these binds, which lie in these bytes
abbrev pub AreImportRowsOver : List ℕ × Binds → ImportRows → Type 0
AreImportRowsOver x rows.Nothing = Unit {0}
AreImportRowsOver x (rows.Binds it) =
    (b : BindRanges) × (x.1.ranges ≡ Some b) × (b.bytes ≡ x.0) × IsOverImports (input_in b x.1.pointer x.1.libs x.1.segments) b.lazy it
