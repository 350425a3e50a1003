-- The option of a call that selects entitlements.
use Rattle.std.specs.Prelude.{List, ℕ, codes, bytes_eq, Bool, true, false, if◌then◌else◌}
use Rattle.machsign.specs.declared.arguments.Entitlements.{Entitlements}

-- whether entitlements are selected after one more argument, and whether that is this option
abbrev pub entitlements_taken : Entitlements → List ℕ → Entitlements × Bool
entitlements_taken e argument =
    if bytes_eq argument (codes "--entitlements") then (record { are_selected = true }, true) else (e, false)
