-- The option of a call that selects a fat file of 64 bits.
use Rattle.std.specs.Prelude.{List, ℕ, codes, bytes_eq, Bool, true, false, if◌then◌else◌}
use Rattle.machfat.specs.declared.arguments.Width.{Width}

-- whether 64 bits are selected after one more argument, and whether that is this option
abbrev pub width_taken : Width → List ℕ → Width × Bool
width_taken w argument =
    if bytes_eq argument (codes "--fat64") then (record { is_wide = true }, true) else (w, false)
