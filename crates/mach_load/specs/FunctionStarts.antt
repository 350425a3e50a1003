-- Function starts (`mach-o/loader.h`, LC_FUNCTION_STARTS): ULEB128 numbers. Each is the distance from
-- the function before, and the first is that from the image's first byte in memory. A 0 ends them.
use Rattle.std.specs.Prelude.{◌≡◌, ◌==◌, ◌⊎◌, ℕ, zero, suc, ◌+◌, ◌-◌, ◌<◌, ◌≤◌, List, [], ◌∷◌, take, Option, Some, None, Result, Ok, Err, nat_le, if◌then◌else◌}
use Rattle.mach_base.specs.Answer.{◌>>=◌}
use Rattle.mach_base.specs.Fault.{Fault}
use Rattle.mach_base.specs.Leb128.{uleb_at}
use Rattle.mach_base.specs.Sums.{sum_of}

-- A range of numbers: the bytes that hold them, the place of the first, and their end.
pub record StartRange : Type 0 where
  pub bytes : List ℕ
  pub from : ℕ
  pub upto : ℕ

-- the range that a command places: no byte after it is read
abbrev pub start_range_at : List ℕ → (dataoff datasize : ℕ) → StartRange
start_range_at bytes dataoff datasize =
    record { bytes = take (dataoff + datasize) bytes; from = dataoff; upto = dataoff + datasize }

-- the address that is a number after another address, and the place after that number, or none if the number is 0
abbrev pub start_after : ℕ → ℕ × ℕ → Result (Option (ℕ × ℕ)) Fault
start_after address found =
    if found.0 == 0 then Ok None else sum_of address found.0 >>= (λ start. Ok (Some (start, found.1)))

-- the function after an address, by the number at a place
unfoldable pub function_start_at : List ℕ → (place address : ℕ) → Result (Option (ℕ × ℕ)) Fault
function_start_at bytes place address = uleb_at bytes place >>= start_after address

-- The functions after an address, by the numbers from a place on. They end at the range's end, at a 0, or after the first fault.
abbrev pub AreStartsAfter : List ℕ → (upto place address : ℕ) → List (Result ℕ Fault) → Type 0
AreStartsAfter bytes upto place address [] = (upto ≤ place) ⊎ (function_start_at bytes place address ≡ Ok None)
AreStartsAfter bytes upto place address (Ok start ∷ items) =
    (place < upto) × ((next : ℕ) × (function_start_at bytes place address ≡ Ok (Some (start, next))) × AreStartsAfter bytes upto next start items)
AreStartsAfter bytes upto place address (Err f ∷ items) =
    (place < upto) × (function_start_at bytes place address ≡ Err f) × (items ≡ [])

-- the functions of an image whose first byte has an address
abbrev pub AreFunctionStarts : StartRange → (base : ℕ) → List (Result ℕ Fault) → Type 0
AreFunctionStarts r base items = AreStartsAfter r.bytes r.upto r.from base items

-- a start and those after it; or nothing; or a fault and nothing after it
abbrev pub start_then : Result (Option (ℕ × ℕ)) Fault → (ℕ × ℕ → List (Result ℕ Fault)) → List (Result ℕ Fault)
start_then (Ok None) others = []
start_then (Ok (Some start)) others = Ok start.0 ∷ others start
start_then (Err f) others = Err f ∷ []

-- at most `most` of them
unfoldable pub starts_from : List ℕ → (upto most place address : ℕ) → List (Result ℕ Fault)
starts_from bytes upto zero place address = []
starts_from bytes upto (suc most) place address =
    if nat_le upto place then []
    else start_then (function_start_at bytes place address) (λ start. starts_from bytes upto most start.1 start.0)

-- all of them
abbrev pub starts_after : List ℕ → (upto place address : ℕ) → List (Result ℕ Fault)
starts_after bytes upto place address = starts_from bytes upto (upto - place) place address
