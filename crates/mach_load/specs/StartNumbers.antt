-- The numbers from which function starts are computed.
use Rattle.std.specs.Prelude.{◌≡◌, ◌≢◌, ℕ, ◌+◌, ◌<◌, List, [], ◌∷◌, length, take, sum, Some, Result, Ok, slice_get}
use Rattle.mach_base.specs.Fault.{Fault}
use Rattle.mach_base.specs.Leb128.{uleb_at}

-- these numbers are spelled one after another from a place on, and none is 0
abbrev pub AreDistances : List ℕ → (upto place : ℕ) → List ℕ → Type 0
AreDistances bytes upto place [] = Unit {0}
AreDistances bytes upto place (n ∷ ns) =
    (place < upto) × (n ≢ 0) × ((next : ℕ) × (uleb_at bytes place ≡ Ok (n, next)) × AreDistances bytes upto next ns)

-- each address among the items is the base plus the sum of the numbers up to its own
abbrev pub AreSums : (base : ℕ) → List ℕ → List (Result ℕ Fault) → Type 0
AreSums base numbers items =
    (k start : ℕ) → slice_get items k ≡ Some (Ok start) → (k < length numbers) × (start ≡ base + sum (take (k + 1) numbers))
