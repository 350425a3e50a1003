-- Lists whose items are computed from their number, as the sections of a segment are, and items that may fail.
use Rattle.std.specs.Prelude.{ℕ, zero, suc, ◌+◌, ◌-◌, ◌/◌, List, [], ◌∷◌, Bool, true, false, Result, Ok, Err, if◌then◌else◌}
use Rattle.mach_base.specs.declared.error.Error.{Error}
use Rattle.mach_base.specs.Answer.{◌>>=◌}
use Rattle.mach_base.specs.Fault.{Fault, fault_of, is_bad_offset}

-- `count` items, beginning with number `first`
abbrev pub items_from : {A : Type 0} → (ℕ → A) → ℕ → ℕ → List A
items_from item first zero = []
items_from item first (suc count) = item first ∷ items_from item (first + 1) count

-- an item as contracts see it: its value by view, or the fault that its error reports
abbrev pub read_as : {X Y : Type 0} → (X → Y) → Result X Error → Result Y Fault
read_as view (Ok x) = Ok (view x)
read_as view (Err e) = Err (fault_of e)

-- the values of all items, or the fault of the first that has none
abbrev pub all_read : {A : Type 0} → List (Result A Fault) → Result (List A) Fault
all_read [] = Ok []
all_read (item ∷ items) = item >>= (λ x. all_read items >>= (λ xs. Ok (x ∷ xs)))

-- how many records of a size begin within so many bytes, one after another from a place on: no byte of any later record exists
abbrev pub records_in_bounds : (len start size : ℕ) → ℕ
records_in_bounds len start size = (len - start + (size - 1)) / size

-- the item is missing, because its place is at or past the end of the bytes
abbrev pub is_past_the_end : {A : Type 0} → Result A Fault → Bool
is_past_the_end (Ok x) = false
is_past_the_end (Err f) = is_bad_offset f

-- the items before the first whose record begins past the end of the bytes
abbrev pub items_in_bounds : {A : Type 0} → List (Result A Fault) → List (Result A Fault)
items_in_bounds [] = []
items_in_bounds (item ∷ items) = if is_past_the_end item then [] else item ∷ items_in_bounds items
