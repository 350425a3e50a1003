-- What the bytes of an image bound: the number of its commands, the data of its segments, and the sections that can be looked up.
use Rattle.std.specs.Prelude.{ℕ, ◌*◌, ◌<◌, ◌≤◌, ◌^◌, List, length}
use Rattle.mach_base.specs.declared.context.Ctx.{Ctx}
use Rattle.mach_load.specs.Command.{Command}
use Rattle.mach_chained.specs.FixupCounts.{LieInFile}
use Rattle.mach_parts.specs.Section.{section_size}
use Rattle.mach_parts.specs.SectionRecord.{readable_sections}
use Rattle.goblin_mach.specs.Image.{LossyOpensAs}
use Rattle.goblin_mach.specs.Subjects.{lossy_segments_in}

-- at most one command for each eight bytes
abbrev pub CommandsFit : Type 0
CommandsFit = (bytes : List ℕ) (o : ℕ) (ctx : Ctx) (cs : List Command) → LossyOpensAs bytes o ctx cs → 8 * length cs ≤ length bytes

-- the data of each segment lie in the bytes
abbrev pub SegmentsLieInBytes : Type 0
SegmentsLieInBytes = (ctx : Ctx) (bytes : List ℕ) (cs : List Command) → LieInFile (length bytes) (lossy_segments_in ctx bytes cs)

-- the sections in their segment's command and in the bytes: at most as many as the bytes have records
abbrev pub SectionsFit : Type 0
SectionsFit = (bytes : List ℕ) (o : ℕ) (ctx : Ctx) (cs : List Command) → length bytes < 2 ^ 64 → LossyOpensAs bytes o ctx cs
    → length (readable_sections (lossy_segments_in ctx bytes cs)) * section_size ctx.container ≤ length bytes
