-- What sections hold as C sees it: their bytes, strings, and the functions that dyld calls before the main function.
use Rattle.std.specs.Prelude.{◌⊎◌, ℕ, List, drop, length, map, Result, Ok, Err, if◌then◌else◌}
use Rattle.mach_base.specs.Answer.{◌>>=◌}
use Rattle.mach_base.specs.Fault.{Fault}
use Rattle.mach_base.specs.Number.{slice_at}
use Rattle.mach_parts.specs.Section.{is_zero_fill}
use Rattle.goblin_mach.specs.SlotFacts.{HasInitializers}
use Rattle.goblin_mach.specs.declared.initializers.Initializer.{Initializer}
use Rattle.goblin_mach_c.specs.Codes.{code_of_fault}
use Rattle.goblin_mach_c.specs.Fill.{Fills}
use Rattle.goblin_mach_c.specs.Opened.{FaultIn, lossy_mode}
use Rattle.goblin_mach_c.specs.declared.contents.gm_initializer.{gm_initializer}
use Rattle.goblin_mach_c.specs.declared.contents.gm_span.{gm_span}
use Rattle.goblin_mach_c.specs.declared.images.gm_image.{gm_image}

-- the bytes of a section with these numbers in its record, of which a zero-filled one has none; or the reason why they aren't there
abbrev pub section_span : List ℕ → (offset size flags : ℕ) → Result gm_span Fault
section_span bytes offset size flags =
    if is_zero_fill flags then Ok (record { place = 0; len = 0 })
    else slice_at size bytes offset >>= (λ held. Ok (record { place = offset; len = length held }))

-- a string and its place
abbrev pub string_span : ℕ × List ℕ → gm_span
string_span s = record { place = s.0; len = length s.1 }

-- an initializer, or why those of a section can't be read
abbrev pub initializer_row : Result Initializer Fault → gm_initializer
initializer_row (Ok i) = record { slot = i.slot; target = i.target; segment = i.section.segment; section_index = i.section.number; code = 0 }
initializer_row (Err f) = record { slot = 0; target = 0; segment = 0; section_index = 0; code = code_of_fault f }

-- The rows of the initializers of the image at o from index `first` on were written, as many as there are and fit.
pub record WritesInitializers (bytes : List ℕ) (o first : ℕ) (old new : List gm_initializer) (n : ℕ) : Type 0 where
  pub items : List (Result Initializer Fault)
  pub has : HasInitializers bytes o (Ok items)
  pub rows : Fills (drop first (map initializer_row items)) old new n

-- a fault of opening, or of the first fixup
abbrev pub InitializersFaultIn : List ℕ → gm_image → Fault → Type 0
InitializersFaultIn bytes c f = FaultIn (lossy_mode c.is_lossy) bytes c.offset f ⊎ HasInitializers bytes c.offset (Err f)
