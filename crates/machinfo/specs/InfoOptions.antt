-- The options that only this program has.
use Rattle.std.specs.Prelude.{ℕ, List, codes, bytes_eq, Bool, true, false, if◌then◌else◌}
use Rattle.machinfo.specs.declared.arguments.InfoOptions.{InfoOptions}

-- before the first option
abbrev pub no_info_options : InfoOptions
no_info_options = record { has_headings = false; is_explained = false; is_raw = false }

-- The options after an argument, and whether it is one of them.
abbrev pub info_option_taken : InfoOptions → List ℕ → InfoOptions × Bool
info_option_taken o argument =
    if bytes_eq argument (codes "--headings") then (record o { has_headings = true }, true)
    else (if bytes_eq argument (codes "--explain") then (record o { is_explained = true }, true)
    else (if bytes_eq argument (codes "--raw") then (record o { is_raw = true }, true)
    else (o, false)))
