-- The position in the bindings of an image, and the bindings after it.
use Rattle.std.specs.Prelude.{◌≡◌, ◌<◌, ◌^◌, ◌⊎◌, ◌++◌, ℕ, List, [], ◌∷◌, Option, Some, None, Result, Ok, Err, map, length, drop}
use Rattle.mach_base.specs.Fault.{Fault, fault_of}
use Rattle.mach_base.specs.Number.{slice_at}
use Rattle.mach_base.specs.declared.context.Ctx.{Ctx}
use Rattle.mach_base.specs.declared.error.Error.{Error}
use Rattle.mach_load.specs.Command.{Command}
use Rattle.mach_parts.specs.Bindings.{Binding, binding_view}
use Rattle.mach_base.specs.Text.{texts}
use Rattle.mach_parts.specs.Segment.{segment_view}
use Rattle.mach_parts.specs.declared.segment.Segment.{Segment}
use Rattle.mach_chained.specs.Bindings.{bindings_of}
use Rattle.mach_chained.specs.Fixups.{Fixup}
use Rattle.mach_chained.specs.FixupsLeft as walk
use Rattle.mach_chained.specs.Header.{Fixups}
use Rattle.mach_chained.specs.Views.{fixups_view}
use Rattle.mach_chained.specs.WalkViews.{fixup_input_in}
use Rattle.mach_dyld.specs.BindCursors.{IsOverBindings, opcode_bindings_after}
use Rattle.mach_dyld.specs.Bindings.{upto_fault}
use Rattle.mach_dyld.specs.BindingsLeft as opcodes
use Rattle.mach_dyld.specs.Imports.{BindRanges, input_in}
use Rattle.mach_dyld.specs.SiteCursors.{binding_sites_left}
use Rattle.mach_dyld.specs.Sites.{Site}
use Rattle.mach_dyld.specs.declared.imports.cursor.BindCursor.{BindCursor}
use Rattle.mach_dyld.specs.declared.imports.cursor.PlacedBinding.{PlacedBinding}
use Rattle.mach_dyld.specs.declared.bindings.OpcodeBindingIterator.{OpcodeBindingIterator}
use Rattle.goblin_mach.specs.Bindings.{AreOpcodeBindings}
use Rattle.goblin_mach.specs.Facts.{OfImage}
use Rattle.goblin_mach.specs.Fixups.{base_of, chained_view, chained_in, chained_place_in, input_over}
use Rattle.goblin_mach.specs.FixupsLeft.{reported_first}
use Rattle.goblin_mach.specs.OpenImage.{bytes_view, commands_view}
use Rattle.goblin_mach.specs.declared.macho.MachO.{MachO}
use Rattle.std.specs.declared.alloc.Global.{Global}
use Rattle.goblin_mach_c.specs.BindingPlaces.{AreBindingSitesAtStage, data_place, places_by, places_in, places_of}
use Rattle.goblin_mach_c.specs.BindingRows.{IsBindingRow, NameIsAt}
use Rattle.goblin_mach_c.specs.FixupsAfter.{AreFixupsAfter, AreFixupRowsOver}
use Rattle.goblin_mach_c.specs.ImportsAfter.{Binds, binds_of_image, binds_there}
use Rattle.goblin_mach_c.specs.Say.{FillsBy}
use Rattle.goblin_mach_c.specs.Sited.{placed}
use Rattle.goblin_mach_c.specs.Stage.{Stage, start, under_way, over, stage_of}
use Rattle.goblin_mach_c.specs.declared.bindings.gm_binding.{gm_binding}
use Rattle.goblin_mach_c.specs.declared.bindings.gm_binding_cursor.{gm_binding_cursor}
use Rattle.goblin_mach_c.specs.declared.bindings.BindingRows.{BindingRows}
use Rattle.goblin_mach_c.specs.declared.fixups.ChainWalk.{ChainWalk}
use Rattle.goblin_mach_c.specs.declared.fixups.FixupRows.{FixupRows}
use Rattle.goblin_mach_c.specs.declared.fixups.FixupRows.TheVariants as rows

-- the bindings after a place of the opcodes; none if there are no binds
abbrev pub opcodes_after : BindCursor → Option BindRanges → Binds → List (Result Binding Fault)
opcodes_after c None x = []
opcodes_after c (Some b) x = opcode_bindings_after (input_in b x.pointer x.libs x.segments) b.lazy c

-- the bindings of the opcodes at a stage: at the start all of them
abbrev pub AreBindingsAtStage : Stage → BindCursor → Binds → List (Result Binding Fault) → Type 0
AreBindingsAtStage start c x items = AreOpcodeBindings x.ranges x.pointer x.libs x.segments items
AreBindingsAtStage under_way c x items = items ≡ opcodes_after c x.ranges x
AreBindingsAtStage over c x items = items ≡ []

-- the bindings of some fixups; if the header of the chains can't be read, its fault, until it is reported
abbrev pub bindings_by : Result (Option Fixups) Fault → Binds → List (Result Fixup Fault) → List (Result Binding Fault)
bindings_by (Err f) x [] = []
bindings_by (Err f) x (i ∷ fixups) = Err f ∷ []
bindings_by (Ok None) x fixups = []
bindings_by (Ok (Some chained)) x fixups = bindings_of (input_over chained x.segments) x.libs fixups

-- The bindings after a cursor, for these binds and these chains: those of the opcodes and then those of the fixups, each after
-- its part of the cursor, up to the first fault.
pub record AreBindingsAfter (c : gm_binding_cursor) (x : Binds) (chained : Result (Option Fixups) Fault) (items : List (Result Binding Fault)) : Type 0 where
  pub by_opcodes : List (Result Binding Fault)
  pub fixups : List (Result Fixup Fault)
  pub opcodes : AreBindingsAtStage (stage_of c.opcodes.stage) c.opcodes.binds x by_opcodes
  pub chains : AreFixupsAfter c.chains chained x.segments fixups
  pub are : items ≡ upto_fault (by_opcodes ++ bindings_by chained x fixups)

-- what bindings are read from: the bytes, the binds, the chains, and the offset of the chains' data
pub record BindingSource : Type 0 where
  pub bytes : List ℕ
  pub binds : Binds
  pub chained : Result (Option Fixups) Fault
  pub chains_at : ℕ

-- the source of an opened image
abbrev pub source_of : MachO Global → BindingSource
source_of m = record {
  bytes = bytes_view m;
  binds = binds_of_image m;
  chained = chained_view m;
  chains_at = data_place (chained_place_in (commands_view m));
}

-- the source of the commands of some bytes
abbrev pub source_there : Ctx → List ℕ → List Command → BindingSource
source_there ctx bytes cs = record {
  bytes = bytes;
  binds = binds_there ctx bytes cs;
  chained = chained_in ctx bytes cs;
  chains_at = data_place (chained_place_in cs);
}

-- a binding without the place of its name
abbrev pub unplaced : Result (Binding × ℕ) Fault → Result Binding Fault
unplaced (Ok b) = Ok b.0
unplaced (Err f) = Err f

-- The bindings after a cursor, each with the place of its own name: those of the opcodes with their sites, then those of the
-- fixups with the places of their binds, each after its part of the cursor, up to the first fault.
pub record ArePlacedAfter (c : gm_binding_cursor) (x : BindingSource) (items : List (Result (Binding × ℕ) Fault)) : Type 0 where
  pub by_opcodes : List (Result Binding Fault)
  pub sites : List Site
  pub fixups : List (Result Fixup Fault)
  pub opcodes : AreBindingsAtStage (stage_of c.opcodes.stage) c.opcodes.binds x.binds by_opcodes
  pub opcode_sites : AreBindingSitesAtStage (stage_of c.opcodes.stage) c.opcodes.binds x.binds sites
  pub chains : AreFixupsAfter c.chains x.chained x.binds.segments fixups
  pub are : items
      ≡ upto_fault (placed by_opcodes (places_of sites) ++ placed (bindings_by x.chained x.binds fixups) (places_by x.chains_at x.chained fixups))
  pub bindings : AreBindingsAfter c x.binds x.chained (map unplaced items)

-- The rows of the bindings after a cursor were written, as many as there are and fit, and the others come after the new cursor.
pub record AreBindingsWritten (x : BindingSource) (before after : gm_binding_cursor) (old new : List gm_binding) (n : ℕ) : Type 0 where
  pub items : List (Result (Binding × ℕ) Fault)
  pub following : ArePlacedAfter before x items
  pub rows : FillsBy (IsBindingRow x.bytes) items old new n
  pub rest : ArePlacedAfter after x (drop n items)

-- the binds and the chains of the image at o, over its libraries and its segments
abbrev pub OfBindings : List ℕ → ℕ → (Binds → Result (Option Fixups) Fault → Type 0) → Type 0
OfBindings bytes o Holds = OfImage bytes o (λ ctx cs. Holds (binds_there ctx bytes cs) (chained_in ctx bytes cs))

-- the bindings of the image at o after a cursor
abbrev pub HasBindingsAfter : List ℕ → ℕ → gm_binding_cursor → List (Result Binding Fault) → Type 0
HasBindingsAfter bytes o c items = OfBindings bytes o (λ x chained. AreBindingsAfter c x chained items)

-- the rows of the bindings of the image at o were written
abbrev pub WritesBindings : List ℕ → ℕ → (before after : gm_binding_cursor) → (old new : List gm_binding) → ℕ → Type 0
WritesBindings bytes o before after old new n = OfImage bytes o (λ ctx cs. AreBindingsWritten (source_there ctx bytes cs) before after old new n)

-- ---- what is left for the rows

abbrev pub opcode_rows_left : Option OpcodeBindingIterator → List (Result Binding Fault)
opcode_rows_left None = []
opcode_rows_left (Some it) = opcodes.opcode_bindings_left it

-- those of a walk along the chains, for these segments and libraries
abbrev pub bound_left : ChainWalk → List Segment → ℕ → List (List ℕ) → List (Result Binding Fault)
bound_left it segments base libs = bindings_of (fixup_input_in it.chained segments base) libs (walk.fixups_left it.fixups)

abbrev pub chains_by : FixupRows → List Segment → ℕ → List (List ℕ) → List (Result Binding Fault)
chains_by (rows.Unread why) segments base libs = reported_first why
chains_by (rows.Chains it) segments base libs = bound_left it segments base libs

abbrev pub chains_left : BindingRows → List (Result Binding Fault)
chains_left it = chains_by it.fixups it.segments.now it.base (texts it.libs.now)

-- all of them, whether or not there is a fault among them
abbrev pub all_binding_rows_left : BindingRows → List (Result Binding Fault)
all_binding_rows_left it = opcode_rows_left it.opcodes ++ chains_left it

abbrev pub binding_rows_left : BindingRows → List (Result Binding Fault)
binding_rows_left it = upto_fault (all_binding_rows_left it)

-- the same with places: the sites left of the opcodes, the places of the binds left of the chains
abbrev pub opcode_sites_left : Option OpcodeBindingIterator → List Site
opcode_sites_left None = []
opcode_sites_left (Some it) = binding_sites_left it

abbrev pub bound_places : ChainWalk → ℕ → List ℕ
bound_places it at = places_in at (fixups_view it.chained) (walk.fixups_left it.fixups)

abbrev pub chain_places : FixupRows → ℕ → List ℕ
chain_places (rows.Unread why) at = []
chain_places (rows.Chains it) at = bound_places it at

abbrev pub opcodes_placed : Option OpcodeBindingIterator → List (Result (Binding × ℕ) Fault)
opcodes_placed it = placed (opcode_rows_left it) (places_of (opcode_sites_left it))

abbrev pub chains_placed : BindingRows → List (Result (Binding × ℕ) Fault)
chains_placed it = placed (chains_left it) (chain_places it.fixups it.chains_at)

abbrev pub all_placed : BindingRows → List (Result (Binding × ℕ) Fault)
all_placed it = opcodes_placed it.opcodes ++ chains_placed it

abbrev pub placed_left : BindingRows → List (Result (Binding × ℕ) Fault)
placed_left it = upto_fault (all_placed it)

abbrev pub AreOverOpcodes : BindingSource → Option OpcodeBindingIterator → Type 0
AreOverOpcodes x None = Unit {0}
AreOverOpcodes x (Some it) =
    (b : BindRanges) × (x.binds.ranges ≡ Some b) × (b.bytes ≡ x.bytes)
    × IsOverBindings (input_in b x.binds.pointer x.binds.libs x.binds.segments) b.lazy it

-- the data of the chains are at a place of the bytes
abbrev pub AreAt : BindingSource → ℕ → Type 0
AreAt x place = (chained : Fixups) → x.chained ≡ Ok (Some chained) → (size : ℕ) × (slice_at size x.bytes place ≡ Ok chained.payload)

-- the rows are read from this source
pub record AreBindingRowsOver (x : BindingSource) (it : BindingRows) : Type 0 where
  pub opcodes : AreOverOpcodes x it.opcodes
  pub fixups : AreFixupRowsOver (record { chained = x.chained; segments = x.binds.segments }) it.fixups
  pub libs : texts it.libs.now ≡ x.binds.libs
  pub segments : map segment_view it.segments.now ≡ x.binds.segments
  pub base : it.base ≡ base_of x.binds.segments
  pub chains : AreAt x it.chains_at
  pub chains_at : it.chains_at ≡ x.chains_at
  pub short : length x.bytes < 2 ^ 64

-- the first of them, and what is left after it; after an error nothing matters
abbrev pub ComesFirst : List (Result Binding Fault) → Option (Result PlacedBinding Error) → List (Result Binding Fault) → Type 0
ComesFirst before None after = (before ≡ []) × (after ≡ [])
ComesFirst before (Some (Ok p)) after = before ≡ Ok (binding_view p.binding) ∷ after
ComesFirst before (Some (Err e)) after = (rest : List (Result Binding Fault)) × (before ≡ Err (fault_of e) ∷ rest)

-- the same with places: the first binding has its own
abbrev pub PlacedFirst : List (Result (Binding × ℕ) Fault) → Option (Result PlacedBinding Error) → List (Result (Binding × ℕ) Fault) → Type 0
PlacedFirst before None after = (before ≡ []) × (after ≡ [])
PlacedFirst before (Some (Ok p)) after = before ≡ Ok (binding_view p.binding, p.name_place) ∷ after
PlacedFirst before (Some (Err e)) after = (rest : List (Result (Binding × ℕ) Fault)) × (before ≡ Err (fault_of e) ∷ rest)

-- the place of a binding is the first of these, and the others are left
abbrev pub PlaceFirst : List ℕ → Option (Result PlacedBinding Error) → List ℕ → Type 0
PlaceFirst before None after = Unit {0}
PlaceFirst before (Some (Ok p)) after = before ≡ p.name_place ∷ after
PlaceFirst before (Some (Err e)) after = Unit {0}

-- the name of a binding is at its place, unless it is empty
abbrev pub HasPlacedName : List ℕ → PlacedBinding → Type 0
HasPlacedName bytes p = (p.binding.name.now ≡ []) ⊎ NameIsAt bytes p.name_place p.binding.name.now
