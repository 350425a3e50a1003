-- Items of binds, each with the place of its name and the number of its library.
use Rattle.std.specs.Prelude.{ℕ, List, [], ◌∷◌, Result, Ok, Err}
use Rattle.mach_base.specs.Fault.{Fault}
use Rattle.mach_dyld.specs.Sites.{Site, no_site}

-- each with its own, up to the first fault; with the given one if there are fewer
abbrev pub each_with : {A S : Type 0} → S → List (Result A Fault) → List S → List (Result (A × S) Fault)
each_with none [] own = []
each_with none (Err f ∷ items) own = Err f ∷ []
each_with none (Ok i ∷ items) [] = Ok (i, none) ∷ each_with none items []
each_with none (Ok i ∷ items) (s ∷ own) = Ok (i, s) ∷ each_with none items own

-- with its site; if there are fewer sites, none was set
abbrev pub sited : {A : Type 0} → List (Result A Fault) → List Site → List (Result (A × Site) Fault)
sited items sites = each_with no_site items sites

-- with its place
abbrev pub placed : {A : Type 0} → List (Result A Fault) → List ℕ → List (Result (A × ℕ) Fault)
placed items places = each_with 0 items places

-- the offset reported for a name; an empty one is reported at 0
abbrev pub reported_at : List ℕ → ℕ → ℕ
reported_at [] place = 0
reported_at (b ∷ name) place = place
