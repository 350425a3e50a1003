-- When output is coloured.
use Rattle.std.specs.Prelude.{◌&&◌, ℕ, List, Bool, true, false, not, codes, bytes_eq, if◌then◌else◌, Option, Some, None}
use Rattle.mach_cli.specs.declared.color.Color.{Color}
use Rattle.mach_cli.specs.declared.color.Color.TheVariants.{Auto, Always, Never}

-- the word after `--color`
abbrev pub color_named : List ℕ → Option Color
color_named word =
    if bytes_eq word (codes "auto") then Some Auto
    else if bytes_eq word (codes "always") then Some Always
    else if bytes_eq word (codes "never") then Some Never
    else None

-- Whether output is coloured: on a terminal, unless the environment refuses it (`NO_COLOR`); always; or never.
abbrev pub is_coloured : Color → (is_terminal is_refused : Bool) → Bool
is_coloured Auto is_terminal is_refused = is_terminal && not is_refused
is_coloured Always is_terminal is_refused = true
is_coloured Never is_terminal is_refused = false
