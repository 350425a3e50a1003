-- Lists in load commands: the items of each command, with its number.
use Rattle.std.specs.Prelude.{ℕ, ◌+◌, List, [], ◌∷◌, Result, Ok, Err}
use Rattle.mach_base.specs.Fault.{Fault}
use Rattle.mach_load.specs.Command.{Command}

-- an item with the number of its command
abbrev pub with_number : {V : Type 0} → ℕ → Result V Fault → Result (ℕ × V) Fault
with_number number (Ok x) = Ok (number, x)
with_number number (Err f) = Err f

-- some items and those after them, up to the first fault
abbrev pub followed_by : {V : Type 0} → List (Result V Fault) → List (Result V Fault) → List (Result V Fault)
followed_by [] others = others
followed_by (Ok x ∷ items) others = Ok x ∷ followed_by items others
followed_by (Err f ∷ items) others = Err f ∷ []

-- the items of some commands, the first of which has number `number`, up to the first fault
abbrev pub listed_by : {V : Type 0} → (ℕ → Command → List (Result V Fault)) → ℕ → List Command → List (Result V Fault)
listed_by lists number [] = []
listed_by lists number (c ∷ cs) = followed_by (lists number c) (listed_by lists (number + 1) cs)
