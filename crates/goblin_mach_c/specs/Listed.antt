-- What load commands list as C sees it, command by command.
use Rattle.std.specs.Prelude.{◌≡◌, List, [], ◌∷◌, Bool, true, false, Option, Some, None, Result, Ok, Err, map}
use Rattle.mach_base.specs.Fault.{Fault}
use Rattle.mach_load.specs.Command.{Command}
use Rattle.mach_load.specs.CommandLists.{followed_by}
use Rattle.goblin_mach_c.specs.declared.listed.CommandItems.{CommandItems}

-- what some commands list, up to the first fault
abbrev pub listed_in : {V : Type 0} → (Command → List (Result V Fault)) → List Command → List (Result V Fault)
listed_in lists [] = []
listed_in lists (c ∷ cs) = followed_by (lists c) (listed_in lists cs)

-- what is left of one command, if one has begun
abbrev pub part_left : {V : Type 0} → (CommandItems → List (Result V Fault)) → Option CommandItems → List (Result V Fault)
part_left left None = []
part_left left (Some part) = left part

-- the rows of what is left of one command and of those after it; none after a fault
abbrev pub listed_left : {V R : Type 0} → (Result V Fault → R) → Bool → List (Result V Fault) → List (Result V Fault) → List R
listed_left row true part others = []
listed_left row false part others = map row (followed_by part others)

-- The row of the first of the items before, and the others are left; or the row of the fault that ends them; or there are none.
abbrev pub GivesFirst : {V R : Type 0} → (Result V Fault → R) → List (Result V Fault) → Option (Result R R) → List (Result V Fault) → Type 0
GivesFirst row before None after = before ≡ []
GivesFirst {V} row before (Some (Ok r)) after = (v : V) × (before ≡ Ok v ∷ after) × (r ≡ row (Ok v))
GivesFirst {V} row before (Some (Err r)) after = (f : Fault) × (rest : List (Result V Fault)) × (before ≡ Err f ∷ rest) × (r ≡ row (Err f))
