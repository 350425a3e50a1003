-- The command of a call, and the options that it may have.
use Rattle.std.specs.Prelude.{◌==◌, ◌&&◌, ℕ, List, codes, length, Bool, not, bytes_eq, if◌then◌else◌, Option, Some, None}
use Rattle.std.specs.Option.{is_some}
use Rattle.mach_cli.specs.Calls.{is_json}
use Rattle.mach_cli.specs.declared.call.Call.{Call}
use Rattle.mach_cli.specs.declared.misuse.Misuse.{Misuse}
use Rattle.mach_cli.specs.declared.misuse.Misuse.TheVariants.{UnknownOption}
use Rattle.machfat.specs.declared.arguments.Width.{Width}
use Rattle.machfat.specs.declared.shown.Shown.{Shown}
use Rattle.machfat.specs.declared.shown.Shown.TheVariants.{Records, Object, Faults, Members}

-- what a command shows of files, if it shows them: of the list there are lines and an object, and of the others no object
abbrev pub shown_named : (word : List ℕ) → (is_json : Bool) → Option Shown
shown_named word is_json =
    if bytes_eq word (codes "list") then Some (if is_json then Object else Records)
    else if bytes_eq word (codes "verify") && not is_json then Some Faults
    else if bytes_eq word (codes "members") && not is_json then Some Members
    else None

-- The first option of a call that a command which writes a file doesn't have, if there is one. Only `create` has `--fat64`.
abbrev pub misplaced_option : {A : Type 0} → Call A Width → (command : List ℕ) → Option (List ℕ)
misplaced_option call command =
    if is_json call.format then Some (codes "--json")
    else if call.own.is_wide && not (bytes_eq command (codes "create")) then Some (codes "--fat64")
    else if is_some call.limit then Some (codes "--limit")
    else if not (length call.others.lists.items == 0) then Some (codes "--names")
    else if call.others.ends_with_nul then Some (codes "-0")
    else None

-- the option that a misuse says is unknown, if it is such a misuse
abbrev pub option_in : Option Misuse → Option (List ℕ)
option_in (Some (UnknownOption option)) = Some option.now
option_in other = None
