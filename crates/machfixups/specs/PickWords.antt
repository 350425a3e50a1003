-- The options of a call that select lists.
use Rattle.std.specs.Prelude.{List, ℕ, codes, bytes_eq, Bool, true, false, if◌then◌else◌}
use Rattle.machfixups.specs.declared.rows.Selection.{Selection}

-- the selected lists with one more word, and whether it is one of these options
abbrev pub pick_taken : Selection → List ℕ → Selection × Bool
pick_taken p word =
    if bytes_eq word (codes "--rebases") then (record p { rebases = true }, true)
    else (if bytes_eq word (codes "--binds") then (record p { binds = true }, true)
    else (if bytes_eq word (codes "--weak") then (record p { weak = true }, true)
    else (if bytes_eq word (codes "--chains") then (record p { chains = true }, true)
    else (p, false))))
