-- The lines that print whether an image is encrypted and stripped, and how many symbols it has.
use Rattle.std.specs.Prelude.{ℕ, List, ◌++◌, codes, Bool, if◌then◌else◌}
use Rattle.std.specs.Fmt.{decimal}
use Rattle.machinfo.specs.Counts.{past_text}
use Rattle.mach_audit.specs.declared.state.State.{State}

abbrev pub yes_or_no : Bool → List ℕ
yes_or_no is_so = if is_so then codes "yes" else codes "no"

-- the lines of this state
abbrev pub state_lines : State → List ℕ
state_lines s =
    (codes "encrypted: " ++ (yes_or_no s.is_encrypted ++ codes "\n"))
    ++ ((codes "stripped: " ++ (yes_or_no s.is_stripped ++ codes "\n"))
    ++ (codes "symbols: " ++ (decimal s.symbols ++ (past_text s.past ++ codes "\n"))))
