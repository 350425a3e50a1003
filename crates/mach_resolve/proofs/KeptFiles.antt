-- What is kept of some files, looked up and added to.
use Rattle.std.proofs.Common.{◌≡◌, ℕ, List, [], Some, Bor, sym, subst}
use Rattle.std.specs.Map.{lookup}
use Rattle.indexmap.specs.IndexMap.{insert_entry}
use Rattle.mach_resolve.specs.Files.{File}
use Rattle.mach_resolve.specs.Following.{IsAfter}
use Rattle.mach_resolve.specs.Follow.{FollowsTo}
use Rattle.mach_resolve.specs.Special.{IsFlat, IsWeakLookup}
use Rattle.mach_resolve.specs.Kept.{AreValues, KeepsAnswers}
use Rattle.mach_resolve.specs.ResolveViews.{met_view, symbol_view_of, place_view_of}
use Rattle.mach_resolve.specs.declared.follow.NamePlace.{NamePlace}
use Rattle.mach_resolve.specs.declared.follow.Symbol.{Symbol}
use Rattle.mach_resolve.specs.declared.kept.Kept.{Kept}
use Rattle.mach_resolve.specs.declared.reexports.Met.{Met}
use Rattle.mach_resolve.proofs.KeptValues.{is_text, found_text, put_text, found_symbol, put_symbol}
use Rattle.mach_resolve.proofs.Steps.{is_same}

-- no map has an entry
pub nothing_kept : {A : Type 0} (files : List File) (kept : Kept A) → kept.closures.entries ≡ [] → kept.places.entries ≡ [] → kept.flat.entries ≡ []
    → kept.weak.entries ≡ [] → KeepsAnswers files kept
nothing_kept files kept closures places flat weak =
    record {
      closures = subst (AreValues (λ library met. IsAfter files library.now (met_view met))) (sym closures) tt;
      places = subst (AreValues (λ symbol place. FollowsTo files [] (symbol_view_of symbol) (place_view_of place))) (sym places) tt;
      flat = subst (AreValues (λ name place. IsFlat files name.now (place_view_of place))) (sym flat) tt;
      weak = subst (AreValues (λ name place. IsWeakLookup files name.now (place_view_of place))) (sym weak) tt;
    }

module _ {A : Type 0} (files : List File) (kept : Kept A) (is : KeepsAnswers files kept) where
  pub closure_found : (library : Bor (List ℕ)) (value : Met A) → Some value ≡ lookup (is_text library) kept.closures.entries
      → IsAfter files library.now (met_view value)
  closure_found library value there =
      found_text (λ name met. IsAfter files name (met_view met)) library kept.closures.entries value there is.closures

  pub place_found : (symbol : Symbol) (value : NamePlace) → Some value ≡ lookup (is_same symbol) kept.places.entries
      → FollowsTo files [] (symbol_view_of symbol) (place_view_of value)
  place_found symbol value there =
      found_symbol (λ s place. FollowsTo files [] s (place_view_of place)) symbol kept.places.entries value there is.places

  pub flat_found : (name : Bor (List ℕ)) (value : NamePlace) → Some value ≡ lookup (is_text name) kept.flat.entries
      → IsFlat files name.now (place_view_of value)
  flat_found name value there =
      found_text (λ n place. IsFlat files n (place_view_of place)) name kept.flat.entries value there is.flat

  pub weak_found : (name : Bor (List ℕ)) (value : NamePlace) → Some value ≡ lookup (is_text name) kept.weak.entries
      → IsWeakLookup files name.now (place_view_of value)
  weak_found name value there =
      found_text (λ n place. IsWeakLookup files n (place_view_of place)) name kept.weak.entries value there is.weak

  pub closure_kept : (new : Kept A) (library : Bor (List ℕ)) (met : Met A) → IsAfter files library.now (met_view met)
      → new.closures.entries ≡ insert_entry is_text kept.closures.entries library met → new.places ≡ kept.places → new.flat ≡ kept.flat
      → new.weak ≡ kept.weak → KeepsAnswers files new
  closure_kept new library met after more places flat weak =
      record {
        closures =
            subst (AreValues (λ l m. IsAfter files l.now (met_view m))) (sym more)
            (put_text (λ name m. IsAfter files name (met_view m)) library kept.closures.entries met after is.closures);
        places = subst (λ xs. AreValues (λ symbol place. FollowsTo files [] (symbol_view_of symbol) (place_view_of place)) xs.entries) (sym places) is.places;
        flat = subst (λ xs. AreValues (λ name place. IsFlat files name.now (place_view_of place)) xs.entries) (sym flat) is.flat;
        weak = subst (λ xs. AreValues (λ name place. IsWeakLookup files name.now (place_view_of place)) xs.entries) (sym weak) is.weak;
      }

  pub place_kept : (new : Kept A) (symbol : Symbol) (place : NamePlace) → FollowsTo files [] (symbol_view_of symbol) (place_view_of place)
      → new.closures ≡ kept.closures → new.places.entries ≡ insert_entry is_same kept.places.entries symbol place → new.flat ≡ kept.flat
      → new.weak ≡ kept.weak → KeepsAnswers files new
  place_kept new symbol place follows closures more flat weak =
      record {
        closures = subst (λ xs. AreValues (λ library met. IsAfter files library.now (met_view met)) xs.entries) (sym closures) is.closures;
        places =
            subst (AreValues (λ s p. FollowsTo files [] (symbol_view_of s) (place_view_of p))) (sym more)
            (put_symbol (λ s p. FollowsTo files [] s (place_view_of p)) symbol kept.places.entries place follows is.places);
        flat = subst (λ xs. AreValues (λ name place. IsFlat files name.now (place_view_of place)) xs.entries) (sym flat) is.flat;
        weak = subst (λ xs. AreValues (λ name place. IsWeakLookup files name.now (place_view_of place)) xs.entries) (sym weak) is.weak;
      }

  pub flat_kept : (new : Kept A) (name : Bor (List ℕ)) (place : NamePlace) → IsFlat files name.now (place_view_of place)
      → new.closures ≡ kept.closures → new.places ≡ kept.places → new.flat.entries ≡ insert_entry is_text kept.flat.entries name place
      → new.weak ≡ kept.weak → KeepsAnswers files new
  flat_kept new name place flat closures places more weak =
      record {
        closures = subst (λ xs. AreValues (λ library met. IsAfter files library.now (met_view met)) xs.entries) (sym closures) is.closures;
        places = subst (λ xs. AreValues (λ symbol place. FollowsTo files [] (symbol_view_of symbol) (place_view_of place)) xs.entries) (sym places) is.places;
        flat =
            subst (AreValues (λ n p. IsFlat files n.now (place_view_of p))) (sym more)
            (put_text (λ n p. IsFlat files n (place_view_of p)) name kept.flat.entries place flat is.flat);
        weak = subst (λ xs. AreValues (λ name place. IsWeakLookup files name.now (place_view_of place)) xs.entries) (sym weak) is.weak;
      }

  pub weak_kept : (new : Kept A) (name : Bor (List ℕ)) (place : NamePlace) → IsWeakLookup files name.now (place_view_of place)
      → new.closures ≡ kept.closures → new.places ≡ kept.places → new.flat ≡ kept.flat
      → new.weak.entries ≡ insert_entry is_text kept.weak.entries name place → KeepsAnswers files new
  weak_kept new name place looked_up closures places flat more =
      record {
        closures = subst (λ xs. AreValues (λ library met. IsAfter files library.now (met_view met)) xs.entries) (sym closures) is.closures;
        places = subst (λ xs. AreValues (λ symbol place. FollowsTo files [] (symbol_view_of symbol) (place_view_of place)) xs.entries) (sym places) is.places;
        flat = subst (λ xs. AreValues (λ name place. IsFlat files name.now (place_view_of place)) xs.entries) (sym flat) is.flat;
        weak =
            subst (AreValues (λ n p. IsWeakLookup files n.now (place_view_of p))) (sym more)
            (put_text (λ n p. IsWeakLookup files n (place_view_of p)) name kept.weak.entries place looked_up is.weak);
      }
