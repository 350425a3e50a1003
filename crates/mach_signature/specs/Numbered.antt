-- Reports on numbered things.
use Rattle.std.specs.Prelude.{ℕ, ◌-◌, List, Option, filter_map}
use Rattle.std.specs.List.{range_with_len}
use Rattle.mach_signature.specs.declared.numbered.NumberedFaults.{NumberedFaults}

-- the reports on the first `count` things, in order
abbrev pub reported_of : {V : Type 0} → (ℕ → Option V) → ℕ → List V
reported_of reports count = filter_map reports (range_with_len 0 count)

-- the reports that are left
abbrev pub reported_left : {T V : Type 0} → (T → ℕ) → (T → ℕ → Option V) → NumberedFaults T → List V
reported_left count reports it = filter_map (reports it.things) (range_with_len it.next (count it.things - it.next))
