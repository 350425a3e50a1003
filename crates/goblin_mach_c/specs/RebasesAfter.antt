-- The position in the rebases of an image, and the rebases after it.
use Rattle.std.specs.Prelude.{◌≡◌, ◌++◌, ◌∷◌, ℕ, List, [], Option, Some, None, Result, Ok, Err, map, drop}
use Rattle.std.specs.declared.alloc.Global.{Global}
use Rattle.mach_base.specs.Context.{pointer_size}
use Rattle.mach_base.specs.Fault.{Fault, fault_of}
use Rattle.mach_base.specs.declared.context.Ctx.{Ctx}
use Rattle.mach_base.specs.declared.context.Endian.{Endian}
use Rattle.mach_base.specs.declared.error.Error.{Error}
use Rattle.mach_load.specs.Command.{Command}
use Rattle.mach_parts.specs.Segment.{SegmentView}
use Rattle.mach_chained.specs.Fixups.{Fixup}
use Rattle.mach_chained.specs.FixupsLeft as walk
use Rattle.mach_chained.specs.Header.{Fixups}
use Rattle.mach_dyld.specs.Bindings.{upto_fault}
use Rattle.mach_dyld.specs.declared.imports.cursor.BindCursor.{BindCursor}
use Rattle.mach_dyld.specs.Cut.{CutStream, cut_input, cut_range}
use Rattle.mach_dyld.specs.Rebases.{Rebase}
use Rattle.mach_dyld.specs.RebasesLeft.{rebase_view}
use Rattle.mach_dyld.specs.declared.rebases.Rebase as declared
use Rattle.goblin_mach.specs.Facts.{OfImage}
use Rattle.goblin_mach.specs.Fixups.{chained_view, chained_in}
use Rattle.goblin_mach.specs.ImageStreams.{AreRebasesByOpcodes, rebase_stream_in, rebases_among}
use Rattle.goblin_mach.specs.OpenImage.{bytes_view, commands_view, ctx_view, segments_view}
use Rattle.goblin_mach.specs.Subjects.{lossy_segments_in}
use Rattle.goblin_mach.specs.declared.macho.MachO.{MachO}
use Rattle.mach_c_places.specs.RebaseCursors.{IsOverRebases, opcode_rebases_after, rebase_walk_left}
use Rattle.mach_c_places.specs.declared.rebases.RebaseWalk.{RebaseWalk}
use Rattle.goblin_mach_c.specs.Fill.{Fills}
use Rattle.goblin_mach_c.specs.FixupsAfter.{AreFixupsAfter, AreFixupRowsOver, fixup_rows_left}
use Rattle.goblin_mach_c.specs.RebaseRows.{gm_rebase_view}
use Rattle.goblin_mach_c.specs.Stage.{Stage, start, under_way, over, stage_of}
use Rattle.goblin_mach_c.specs.declared.fixups.ChainWalk.{ChainWalk}
use Rattle.goblin_mach_c.specs.declared.rebases.RebaseRows.{RebaseRows}
use Rattle.goblin_mach_c.specs.declared.rebases.gm_rebase.{gm_rebase}
use Rattle.goblin_mach_c.specs.declared.rebases.gm_rebase_cursor.{gm_rebase_cursor}

-- What rebases are read from: the stream of opcodes, the chains, the byte order, the size of a pointer in bytes, and the segments.
pub record RebaseSource : Type 0 where
  pub stream : Option CutStream
  pub chained : Result (Option Fixups) Fault
  pub le : Endian
  pub pointer : ℕ
  pub segments : List SegmentView

-- the source of an opened image
abbrev pub rebase_source_of : MachO Global → RebaseSource
rebase_source_of m = record {
  stream = rebase_stream_in (bytes_view m) (commands_view m);
  chained = chained_view m;
  le = (ctx_view m).le;
  pointer = pointer_size (ctx_view m).container;
  segments = segments_view m;
}

-- the source of the commands of some bytes
abbrev pub rebase_source_there : Ctx → List ℕ → List Command → RebaseSource
rebase_source_there ctx bytes cs = record {
  stream = rebase_stream_in bytes cs;
  chained = chained_in ctx bytes cs;
  le = ctx.le;
  pointer = pointer_size ctx.container;
  segments = lossy_segments_in ctx bytes cs;
}

-- ---- the rebases after a cursor

-- those after a place of the opcodes; none if there are no opcodes
abbrev pub opcodes_rebased : BindCursor → Option CutStream → RebaseSource → List (Result Rebase Fault)
opcodes_rebased c None x = []
opcodes_rebased c (Some s) x = opcode_rebases_after (cut_input s x.pointer x.segments) (cut_range s) c

-- the rebases of the opcodes at a stage: at the start all of them
abbrev pub AreRebasesAtStage : Stage → BindCursor → RebaseSource → List (Result Rebase Fault) → Type 0
AreRebasesAtStage start c x items = AreRebasesByOpcodes x.stream x.le x.pointer x.segments items
AreRebasesAtStage under_way c x items = items ≡ opcodes_rebased c x.stream x
AreRebasesAtStage over c x items = items ≡ []

-- The rebases after a cursor: those of the opcodes and then those among the fixups of the chains, each after its part of the
-- cursor, up to the first fault.
pub record AreRebasesAfter (c : gm_rebase_cursor) (x : RebaseSource) (items : List (Result Rebase Fault)) : Type 0 where
  pub by_opcodes : List (Result Rebase Fault)
  pub fixups : List (Result Fixup Fault)
  pub opcodes : AreRebasesAtStage (stage_of c.opcodes.stage) c.opcodes.binds x by_opcodes
  pub chains : AreFixupsAfter c.chains x.chained x.segments fixups
  pub are : items ≡ upto_fault (by_opcodes ++ rebases_among fixups)

-- ---- what is written

-- The rows of the rebases after a cursor were written, as many as there are and fit, and the others come after the new cursor.
pub record AreRebasesWritten (x : RebaseSource) (before after : gm_rebase_cursor) (old new : List gm_rebase) (n : ℕ) : Type 0 where
  pub items : List (Result Rebase Fault)
  pub following : AreRebasesAfter before x items
  pub rows : Fills (map gm_rebase_view items) old new n
  pub rest : AreRebasesAfter after x (drop n items)

-- the rebases of the image at o after a cursor
abbrev pub HasRebasesAfter : List ℕ → ℕ → gm_rebase_cursor → List (Result Rebase Fault) → Type 0
HasRebasesAfter bytes o c items = OfImage bytes o (λ ctx cs. AreRebasesAfter c (rebase_source_there ctx bytes cs) items)

-- the rows of the rebases of the image at o were written
abbrev pub WritesRebases : List ℕ → ℕ → (before after : gm_rebase_cursor) → (old new : List gm_rebase) → ℕ → Type 0
WritesRebases bytes o before after old new n = OfImage bytes o (λ ctx cs. AreRebasesWritten (rebase_source_there ctx bytes cs) before after old new n)

-- ---- what is left for the rows

abbrev pub opcodes_left_by : Option RebaseWalk → List (Result Rebase Fault)
opcodes_left_by None = []
opcodes_left_by (Some it) = rebase_walk_left it

-- those of a walk along the chains
abbrev pub rebased_left : ChainWalk → List (Result Rebase Fault)
rebased_left it = rebases_among (walk.fixups_left it.fixups)

abbrev pub chains_rebased : RebaseRows → List (Result Rebase Fault)
chains_rebased it = rebases_among (fixup_rows_left it.fixups)

-- all of them, whether or not there is a fault among them
abbrev pub all_rebase_rows_left : RebaseRows → List (Result Rebase Fault)
all_rebase_rows_left it = opcodes_left_by it.opcodes ++ chains_rebased it

abbrev pub rebase_rows_left : RebaseRows → List (Result Rebase Fault)
rebase_rows_left it = upto_fault (all_rebase_rows_left it)

abbrev pub IsOverOpcodes : RebaseSource → Option RebaseWalk → Type 0
IsOverOpcodes x None = Unit {0}
IsOverOpcodes x (Some it) = (s : CutStream) × (x.stream ≡ Some s) × IsOverRebases (cut_input s x.pointer x.segments) (cut_range s) it

-- the rows are read from this source
pub record AreRebaseRowsOver (x : RebaseSource) (it : RebaseRows) : Type 0 where
  pub opcodes : IsOverOpcodes x it.opcodes
  pub fixups : AreFixupRowsOver (record { chained = x.chained; segments = x.segments }) it.fixups

-- the first of them, and what is left after it; after an error nothing matters
abbrev pub RebaseFirst : List (Result Rebase Fault) → Option (Result declared.Rebase Error) → List (Result Rebase Fault) → Type 0
RebaseFirst before None after = (before ≡ []) × (after ≡ [])
RebaseFirst before (Some (Ok r)) after = before ≡ Ok (rebase_view r) ∷ after
RebaseFirst before (Some (Err e)) after = (rest : List (Result Rebase Fault)) × (before ≡ Err (fault_of e) ∷ rest)
