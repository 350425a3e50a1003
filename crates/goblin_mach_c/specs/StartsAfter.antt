-- The position in the functions of an image, and the functions after it.
use Rattle.std.specs.Prelude.{◌≡◌, ℕ, ◌+◌, List, [], take, map, drop, Option, Some, None, Result, Ok, Err}
use Rattle.mach_base.specs.Fault.{Fault}
use Rattle.mach_load.specs.FunctionStarts.{starts_after}
use Rattle.goblin_mach.specs.Facts.{OfImage}
use Rattle.goblin_mach.specs.Fixups.{base_of}
use Rattle.goblin_mach.specs.Subjects.{lossy_segments_in}
use Rattle.goblin_mach.specs.Tables.{AreStartsAt, starts_place_in}
use Rattle.goblin_mach_c.specs.Codes.{code_of_fault}
use Rattle.goblin_mach_c.specs.Fill.{Fills}
use Rattle.goblin_mach_c.specs.Stage.{Stage, start, under_way, over, stage_of}
use Rattle.goblin_mach_c.specs.declared.starts.gm_function_start.{gm_function_start}
use Rattle.goblin_mach_c.specs.declared.starts.gm_start_cursor.{gm_start_cursor}
use Rattle.goblin_mach_c.specs.declared.starts.StartRows.{StartRows}

-- a function's address, or why no further ones can be read
abbrev pub function_start_row : Result ℕ Fault → gm_function_start
function_start_row (Ok address) = record { address = address; code = 0; reserved = 0 }
function_start_row (Err f) = record { address = 0; code = code_of_fault f; reserved = 0 }

-- the bytes before the end of the numbers that a command places, and this end; none if no command places any
abbrev pub starts_source : List ℕ → Option (ℕ × ℕ) → List ℕ × ℕ
starts_source bytes None = ([], 0)
starts_source bytes (Some range) = (take (range.0 + range.1) bytes, range.0 + range.1)

-- the functions at a stage, from the numbers that a command places and the address of the image's first byte: at the start all of
-- them; on the way those of the numbers from a place on, the first of which counts from an address
abbrev pub AreStartsAtStage : Stage → gm_start_cursor → List ℕ → Option (ℕ × ℕ) → ℕ → List (Result ℕ Fault) → Type 0
AreStartsAtStage start c bytes range base items = AreStartsAt bytes range base items
AreStartsAtStage under_way c bytes range base items =
    let source = starts_source bytes range in items ≡ starts_after source.0 source.1 c.place c.address
AreStartsAtStage over c bytes range base items = items ≡ []

-- those after a cursor
abbrev pub AreStartsAfterCursor : gm_start_cursor → List ℕ → Option (ℕ × ℕ) → ℕ → List (Result ℕ Fault) → Type 0
AreStartsAfterCursor c bytes range base items = AreStartsAtStage (stage_of c.stage) c bytes range base items

-- The rows of the functions after a cursor were written, as many as there are and fit, and the others come after the new cursor.
pub record AreStartsWritten (bytes : List ℕ) (range : Option (ℕ × ℕ)) (base : ℕ) (before after : gm_start_cursor) (old new : List gm_function_start)
    (n : ℕ) : Type 0 where
  pub items : List (Result ℕ Fault)
  pub following : AreStartsAfterCursor before bytes range base items
  pub rows : Fills (map function_start_row items) old new n
  pub rest : AreStartsAfterCursor after bytes range base (drop n items)

-- the numbers of the image at o, and the address of its first byte
abbrev pub OfStarts : List ℕ → ℕ → (Option (ℕ × ℕ) → ℕ → Type 0) → Type 0
OfStarts bytes o Holds = OfImage bytes o (λ ctx cs. Holds (starts_place_in cs) (base_of (lossy_segments_in ctx bytes cs)))

-- the functions of the image at o after a cursor
abbrev pub HasStartsAfter : List ℕ → ℕ → gm_start_cursor → List (Result ℕ Fault) → Type 0
HasStartsAfter bytes o c items = OfStarts bytes o (λ range base. AreStartsAfterCursor c bytes range base items)

-- the rows of the functions of the image at o were written
abbrev pub WritesStarts : List ℕ → ℕ → (before after : gm_start_cursor) → (old new : List gm_function_start) → ℕ → Type 0
WritesStarts bytes o before after old new n = OfStarts bytes o (λ range base. AreStartsWritten bytes range base before after old new n)

-- ---- what is left for the rows

abbrev pub start_rows_left : StartRows → List (Result ℕ Fault)
start_rows_left it = starts_after it.bytes.now it.upto it.place it.address

-- the rows are read from this source
abbrev pub AreStartRowsOver : List ℕ × ℕ → StartRows → Type 0
AreStartRowsOver x it = (it.bytes.now ≡ x.0) × (it.upto ≡ x.1)
