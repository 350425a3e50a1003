-- The position in the fixups of an image, and the fixups after it.
use Rattle.std.specs.Prelude.{◌≡◌, ℕ, List, [], Option, Some, None, Result, Ok, Err, map, drop}
use Rattle.mach_base.specs.Fault.{Fault, fault_of}
use Rattle.mach_parts.specs.Segment.{SegmentView}
use Rattle.mach_chained.specs.FixupCursors.{IsOverFixups, fixups_after}
use Rattle.mach_chained.specs.FixupsLeft as walk
use Rattle.mach_chained.specs.Fixups.{Fixup}
use Rattle.mach_chained.specs.Header.{Fixups}
use Rattle.mach_chained.specs.declared.cursor.FixupCursor.{FixupCursor}
use Rattle.goblin_mach.specs.Facts.{OfImage}
use Rattle.mach_chained.specs.Views.{fixups_view}
use Rattle.goblin_mach.specs.Fixups.{AreImageFixups, chained_in, input_over}
use Rattle.goblin_mach.specs.FixupsLeft.{reported_first}
use Rattle.goblin_mach.specs.Subjects.{lossy_segments_in}
use Rattle.goblin_mach_c.specs.Fill.{Fills}
use Rattle.goblin_mach_c.specs.FixupRows.{fixup_row}
use Rattle.goblin_mach_c.specs.Stage.{Stage, start, under_way, over, stage_of}
use Rattle.goblin_mach_c.specs.declared.fixups.gm_fixup.{gm_fixup}
use Rattle.goblin_mach_c.specs.declared.fixups.gm_fixup_cursor.{gm_fixup_cursor}
use Rattle.goblin_mach_c.specs.declared.fixups.FixupRows.{FixupRows}
use Rattle.goblin_mach_c.specs.declared.fixups.FixupRows.TheVariants as rows

-- those after a place of the chains, if their header can be read
abbrev pub chains_after : FixupCursor → Result (Option Fixups) Fault → List SegmentView → List (Result Fixup Fault)
chains_after c (Err f) segments = []
chains_after c (Ok None) segments = []
chains_after c (Ok (Some fixups)) segments = fixups_after (input_over fixups segments) c

-- the fixups at a stage, of these chains over these segments: at the start all of them
abbrev pub AreFixupsAtStage : Stage → FixupCursor → Result (Option Fixups) Fault → List SegmentView → List (Result Fixup Fault) → Type 0
AreFixupsAtStage start c chained segments items = AreImageFixups chained segments items
AreFixupsAtStage under_way c chained segments items = items ≡ chains_after c chained segments
AreFixupsAtStage over c chained segments items = items ≡ []

-- those after a cursor
abbrev pub AreFixupsAfter : gm_fixup_cursor → Result (Option Fixups) Fault → List SegmentView → List (Result Fixup Fault) → Type 0
AreFixupsAfter c chained segments items = AreFixupsAtStage (stage_of c.stage) c.chains chained segments items

-- The rows of the fixups after a cursor were written, as many as there are and fit, and the others come after the new cursor.
pub record AreFixupsWritten (chained : Result (Option Fixups) Fault) (segments : List SegmentView) (before after : gm_fixup_cursor) (old new : List gm_fixup)
    (n : ℕ) : Type 0 where
  pub items : List (Result Fixup Fault)
  pub following : AreFixupsAfter before chained segments items
  pub rows : Fills (map fixup_row items) old new n
  pub rest : AreFixupsAfter after chained segments (drop n items)

-- the chains of the image at o, over its segments
abbrev pub OfChains : List ℕ → ℕ → (Result (Option Fixups) Fault → List SegmentView → Type 0) → Type 0
OfChains bytes o Holds = OfImage bytes o (λ ctx cs. Holds (chained_in ctx bytes cs) (lossy_segments_in ctx bytes cs))

-- the fixups of the image at o after a cursor
abbrev pub HasFixupsAfter : List ℕ → ℕ → gm_fixup_cursor → List (Result Fixup Fault) → Type 0
HasFixupsAfter bytes o c items = OfChains bytes o (λ chained segments. AreFixupsAfter c chained segments items)

-- the rows of the fixups of the image at o were written
abbrev pub WritesFixups : List ℕ → ℕ → (before after : gm_fixup_cursor) → (old new : List gm_fixup) → ℕ → Type 0
WritesFixups bytes o before after old new n = OfChains bytes o (λ chained segments. AreFixupsWritten chained segments before after old new n)

-- ---- what is left for the rows

abbrev pub fixup_rows_left : FixupRows → List (Result Fixup Fault)
fixup_rows_left (rows.Unread why) = reported_first why
fixup_rows_left (rows.Chains it) = walk.fixups_left it.fixups

-- chains, and the segments that they run through
pub record FixupSource : Type 0 where
  pub chained : Result (Option Fixups) Fault
  pub segments : List SegmentView

-- the rows are read from this source
abbrev pub AreFixupRowsOver : FixupSource → FixupRows → Type 0
AreFixupRowsOver x (rows.Unread None) = Unit {0}
AreFixupRowsOver x (rows.Unread (Some e)) = x.chained ≡ Err (fault_of e)
AreFixupRowsOver x (rows.Chains it) =
    (x.chained ≡ Ok (Some (fixups_view it.chained))) × IsOverFixups (input_over (fixups_view it.chained) x.segments) it.fixups
