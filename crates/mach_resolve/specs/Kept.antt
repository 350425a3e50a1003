-- What was looked up already.
use Rattle.std.specs.Prelude.{List, [], ◌∷◌}
use Rattle.mach_resolve.specs.Files.{File}
use Rattle.mach_resolve.specs.Following.{IsAfter}
use Rattle.mach_resolve.specs.Follow.{FollowsTo}
use Rattle.mach_resolve.specs.Special.{IsFlat, IsWeakLookup}
use Rattle.mach_resolve.specs.ResolveViews.{met_view, symbol_view_of, place_view_of}
use Rattle.mach_resolve.specs.declared.kept.Kept.{Kept}

-- each value is the one that is defined for its key
abbrev pub AreValues : {K V : Type 0} → (K → V → Type 0) → List (K × V) → Type 0
AreValues IsValue [] = Unit {0}
AreValues IsValue (entry ∷ entries) = IsValue entry.0 entry.1 × AreValues IsValue entries

-- What is kept is what is defined of these files: the closure of each library, the place of each symbol, and the place of each
-- name that any file may provide, or define.
pub record KeepsAnswers {A : Type 0} (files : List File) (kept : Kept A) : Type 0 where
  pub closures : AreValues (λ library met. IsAfter files library.now (met_view met)) kept.closures.entries
  pub places : AreValues (λ symbol place. FollowsTo files [] (symbol_view_of symbol) (place_view_of place)) kept.places.entries
  pub flat : AreValues (λ name place. IsFlat files name.now (place_view_of place)) kept.flat.entries
  pub weak : AreValues (λ name place. IsWeakLookup files name.now (place_view_of place)) kept.weak.entries
