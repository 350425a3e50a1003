-- Places on a ring: a first one, and each next one a step further.
use Rattle.std.specs.Prelude.{◌<◌, ◌≤◌, ◌+◌, ◌-◌, ◌*◌, ◌%◌, ◌^◌, ℕ}
use Rattle.mach_dyld.specs.declared.stride.Turns.{Turns}

-- place j
abbrev pub turn_place : Turns → ℕ → ℕ
turn_place t j = (t.first + j * t.step) % t.size

-- one of them is below a limit
abbrev pub AnyBelow : ℕ → Turns → Type 0
AnyBelow limit t = (j : ℕ) × (j < t.count) × (turn_place t j < limit)

-- the place of the last one, if the steps are not reduced modulo the ring's size
abbrev pub last_turn_place : Turns → ℕ
last_turn_place t = t.first + (t.count - 1) * t.step

-- the ring has at most 2^64 places
pub record IsRing (t : Turns) : Type 0 where
  pub count : t.count < 2 ^ 64
  pub first : t.first < t.size
  pub step : t.step < t.size
  pub size : t.size ≤ 2 ^ 64
