-- Ranges of memory that may overlap, and the first of them that holds an address.
use Rattle.std.specs.Prelude.{◌≡◌, ◌⊎◌, ℕ, ◌+◌, ◌<◌, ◌≤◌, ◌^◌, List, [], ◌∷◌, length, Bool, ◌&&◌, Option, Some, None, slice_get, nat_le, nat_lt}
use Rattle.std.specs.Prelude.{if◌then◌else◌}
use Rattle.std.specs.List.{HoldsAt}
use Rattle.std.specs.List.Sorted.{IsNonDecreasingBy}
use Rattle.goblin_mach.specs.declared.addresses.stretches.Change.{Change}
use Rattle.goblin_mach.specs.declared.addresses.stretches.Stretch.{Stretch}

-- whether a range of memory holds an address
abbrev pub holds : (start size address : ℕ) → Bool
holds start size address = nat_le start address && nat_lt address (start + size)

-- the number of the first range that holds an address, if one does; the numbers begin with `number`
abbrev pub first_holder : (address number : ℕ) → List Stretch → Option ℕ
first_holder address number [] = None
first_holder address number (s ∷ ss) = if holds s.start s.size address then Some number else first_holder address (number + 1) ss

-- the item with a number, if there is one
abbrev pub at_number : {T : Type 0} → List T → Option ℕ → Option T
at_number xs None = None
at_number xs (Some k) = slice_get xs k

-- ---- the table that finds it: the addresses from which on another range is the first

-- the holder after the last change up to an address; `holder` is the one before all changes
abbrev pub holder_from : (holder : Option ℕ) → List Change → (address : ℕ) → Option ℕ
holder_from holder [] address = holder
holder_from holder (c ∷ cs) address = holder_from (if nat_le c.start address then c.holder else holder) cs address

-- the changes are sorted by their addresses
abbrev pub AreByAddress : List Change → Type 0
AreByAddress changes = IsNonDecreasingBy (λ c. c.start) changes

-- For each address of 64 bits they give the first of some ranges that holds it.
abbrev pub ReportHolders : (number : ℕ) → List Stretch → List Change → Type 0
ReportHolders number stretches changes = (address : ℕ) → address < 2 ^ 64 → holder_from None changes address ≡ first_holder address number stretches

-- of a table k changes are passed; the next one is at this address, and is passed too
abbrev pub StretchGoesOn : List Change → (k more address : ℕ) → Type 0
StretchGoesOn changes k more address = (k < length changes) × (more ≡ k + 1) × HoldsAt (λ c. c.start ≡ address) changes k

-- the next one is not passed; it is at this address or after it
abbrev pub Stays : List Change → (k same address : ℕ) → Type 0
Stays changes k same address = (same ≡ k) × (k < length changes → HoldsAt (λ c. address ≤ c.start) changes k)

-- Of two tables i and j changes are passed; the change with the next address is passed too, if there is one.
abbrev pub PassesNext : (first : List Change) (i : ℕ) (second : List Change) (j : ℕ) → Option (ℕ × ℕ × ℕ) → Type 0
PassesNext first i second j None = (length first ≤ i) × (length second ≤ j)
PassesNext first i second j (Some next) =
    (StretchGoesOn first i next.0 next.2 × Stays second j next.1 next.2) ⊎ (Stays first i next.0 next.2 × StretchGoesOn second j next.1 next.2)
