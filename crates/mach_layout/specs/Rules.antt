-- The rules of layout as tables: what a rule sees in an item, and the fault that it reports. Each kind of item has its
-- table, `.._sees`, with a line for each rule.
use Rattle.std.specs.Prelude.{ℕ, ◌-◌, Bool, true, List, Option, Some, None, flat_map, filter_map, if◌then◌else◌}
use Rattle.std.specs.List.{range_with_len}
use Rattle.mach_layout.specs.declared.fault.LayoutFault.{LayoutFault}
use Rattle.mach_layout.specs.declared.fault.Owner.{Owner}
use Rattle.mach_layout.specs.declared.fault.Part.{Part}
use Rattle.mach_layout.specs.declared.fault.Rule.{Rule}
use Rattle.mach_layout.specs.declared.rules.Numbers.{Numbers}
use Rattle.mach_layout.specs.declared.rules.RuleOutcome.{RuleOutcome}

-- ---- what a rule sees

-- whether it holds, and two numbers: the one found, and the one with which it is compared
abbrev pub measured : Bool → ℕ → ℕ → RuleOutcome
measured holds found limit = record { holds = holds; other = None; found = found; limit = limit }

-- it has nothing to check
abbrev pub sound : RuleOutcome
sound = measured true 0 0

-- what it sees in an item, if there is one
abbrev pub sees_there : {A : Type 0} → Option A → (A → RuleOutcome) → RuleOutcome
sees_there None sees = sound
sees_there (Some x) sees = sees x

-- the same, with the other owner with which the item conflicts
abbrev pub against : Owner → RuleOutcome → RuleOutcome
against other outcome = record { holds = outcome.holds; other = Some other; found = outcome.found; limit = outcome.limit }

-- the first of two that doesn't hold
abbrev pub then_outcome : RuleOutcome → RuleOutcome → RuleOutcome
then_outcome first next = if first.holds then next else first

-- ---- faults

-- a part of the command at a place, with its number there
abbrev pub owner_at : Part → (command index : ℕ) → Owner
owner_at p command index = record { part = p; command = command; index = index }

-- no fault if the rule holds, else the fault with its owner and the two numbers
abbrev pub reported : Rule → Owner → RuleOutcome → Option LayoutFault
reported rule owner outcome =
    if outcome.holds then None else Some (record { rule = rule; owner = owner; other = outcome.other; found = outcome.found; limit = outcome.limit })

-- the faults that the rules find in some items: rule by rule, and for each rule in the order of the items
abbrev pub reported_over : {T : Type 0} → List Rule → (Rule → T → Owner) → (Rule → T → RuleOutcome) → List T → List LayoutFault
reported_over rules owner sees items = flat_map (λ rule. filter_map (λ x. reported rule (owner rule x) (sees rule x)) items) rules

-- the numbers that are left, as items
abbrev pub numbers_left : Numbers → List ℕ
numbers_left n = range_with_len n.from (n.upto - n.from)
