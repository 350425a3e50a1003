-- The closure of a library: the library itself, and the files that it re-exports as a whole (`mach-o/loader.h`,
-- LC_REEXPORT_DYLIB), and so on.
use Rattle.std.specs.Prelude.{◌≡◌, ℕ, List, [], ◌∷◌, ◌++◌, map, Option, Some, None, slice_get}
use Rattle.mach_base.specs.Among.{IsAmong}
use Rattle.mach_resolve.specs.Files.{File, place_of_file}

-- a library re-exports another as a whole
pub record Edge : Type 0 where
  pub from : List ℕ
  pub to : List ℕ

-- what was met: files, by their places, and the first re-export of a library that is not given
pub record Met : Type 0 where
  pub places : List ℕ
  pub gap : Option Edge

abbrev pub none_met : Met
none_met = record { places = []; gap = None }

abbrev pub with_place : Met → ℕ → Met
with_place m i = record { places = m.places ++ i ∷ []; gap = m.gap }

-- the first gap is kept
abbrev pub first_gap : Option Edge → Edge → Option Edge
first_gap None e = Some e
first_gap (Some g) e = Some g

abbrev pub with_gap : Met → Edge → Met
with_gap m e = record { places = m.places; gap = first_gap m.gap e }

-- the libraries that a file re-exports, in order
abbrev pub edges_of : File → List Edge
edges_of f = map (λ to. record { from = f.name; to = to }) f.reexports

-- What is met along some edges, one after the other, added to what was met before: a library that is not given; a file that was
-- met already; or a file that is met here first, and then what it re-exports, before the next edge.
pub data Walks (files : List File) : List Edge → Met → Met → Type 0 where
  done : {m : Met} → Walks files [] m m
  absent : {e : Edge} {es : List Edge} {m n : Met} → place_of_file files e.to ≡ None → Walks files es (with_gap m e) n → Walks files (e ∷ es) m n
  again : {e : Edge} {es : List Edge} {m n : Met} (i : ℕ) → place_of_file files e.to ≡ Some i → IsAmong i m.places → Walks files es m n
      → Walks files (e ∷ es) m n
  first : {e : Edge} {es : List Edge} {m n : Met} (mid : Met) (i : ℕ) (f : File) → place_of_file files e.to ≡ Some i → (IsAmong i m.places → ⊥)
      → slice_get files i ≡ Some f → Walks files (edges_of f) (with_place m i) mid → Walks files es mid n → Walks files (e ∷ es) m n

-- the edge that starts at a library
abbrev pub met_first : List ℕ → Edge
met_first name = record { from = name; to = name }

-- this is the closure of the library with this name, itself first
abbrev pub IsAfter : List File → List ℕ → Met → Type 0
IsAfter files name m = Walks files (met_first name ∷ []) none_met m

-- this is the closure of all files, one after the other, each file once
abbrev pub IsAfterAll : List File → Met → Type 0
IsAfterAll files m = Walks files (map (λ f. met_first f.name) files) none_met m
