-- The symbol that a search by name returns.
use Rattle.std.specs.Prelude.{◌≡◌, ◌≢◌, ℕ, List, [], ◌∷◌, ◌++◌, map, Result, Ok, Err, Option, Some, None}
use Rattle.mach_base.specs.Fault.{Fault}
use Rattle.mach_archive.specs.IndexSymbols.{IndexSymbol}

-- all symbols have other names
abbrev pub AreOfOtherNames : List ℕ → List IndexSymbol → Type 0
AreOfOtherNames name [] = Unit {0}
AreOfOtherNames name (s ∷ ss) = (s.name ≢ name) × AreOfOtherNames name ss

-- the first symbol of a name; or a fault that comes before it; or none
abbrev pub FindsFirst : List ℕ → List (Result IndexSymbol Fault) → Result (Option IndexSymbol) Fault → Type 0
FindsFirst name items (Ok (Some s)) =
    (before : List IndexSymbol) × (after : List (Result IndexSymbol Fault))
    × (items ≡ map Ok before ++ (Ok s ∷ after)) × AreOfOtherNames name before × (s.name ≡ name)
FindsFirst name items (Ok None) = (all : List IndexSymbol) × (items ≡ map Ok all) × AreOfOtherNames name all
FindsFirst name items (Err f) =
    (before : List IndexSymbol) × (after : List (Result IndexSymbol Fault))
    × (items ≡ map Ok before ++ (Err f ∷ after)) × AreOfOtherNames name before
