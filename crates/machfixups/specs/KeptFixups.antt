-- Which fixups of the chains are shown.
use Rattle.std.specs.Prelude.{List, filter, Bool, false, ◌||◌, Result, Ok, Err}
use Rattle.mach_base.specs.Fault.{Fault}
use Rattle.mach_chained.specs.Fixups.{Fixup}
use Rattle.mach_chained.specs.Pointers.{KindOfFixup, rebase, bind, value}
use Rattle.machfixups.specs.declared.kept_fixups.KindsOfLists.{KindsOfLists}
use Rattle.machfixups.specs.declared.kept_fixups.ShownKinds.{ShownKinds}
use Rattle.machfixups.specs.declared.rows.Selection.{Selection}

-- whether a fixup of this kind is shown; its kind is its own, also if the import of a bind can't be read
abbrev pub keeps_kind : ShownKinds → KindOfFixup → Bool
keeps_kind kinds (rebase target) = kinds.rebases
keeps_kind kinds (bind import addend) = kinds.binds
keeps_kind kinds (value number) = kinds.numbers

-- whether a fixup is shown; one that can't be read is shown if any kind is, since no other follows it
abbrev pub keeps_fixup : ShownKinds → Result Fixup Fault → Bool
keeps_fixup kinds (Ok f) = keeps_kind kinds f.kind
keeps_fixup kinds (Err fault) = kinds.rebases || (kinds.binds || kinds.numbers)

-- the fixups that are shown, in the order of the chains
abbrev pub kept_fixups : ShownKinds → List (Result Fixup Fault) → List (Result Fixup Fault)
kept_fixups kinds items = filter (keeps_fixup kinds) items

-- ---- the lists that have them, if some lists are shown

abbrev pub no_kinds : ShownKinds
no_kinds = record { rebases = false; binds = false; numbers = false }

-- Lines: each fixup is in the list of the chains, once. With the chains these are all of them, else the rebases with the rebases, and
-- the binds with the binds; a number is none of these.
abbrev pub kinds_in_lines : (shown : Selection) → KindsOfLists
kinds_in_lines shown = record {
  rebases = no_kinds;
  binds = no_kinds;
  chains = record { rebases = shown.rebases || shown.chains; binds = shown.binds || shown.chains; numbers = shown.chains };
}

-- Objects: a rebase is in the list of the rebases, a bind in that of the binds, and every fixup in that of the chains.
abbrev pub kinds_in_objects : (shown : Selection) → KindsOfLists
kinds_in_objects shown = record {
  rebases = record no_kinds { rebases = shown.rebases };
  binds = record no_kinds { binds = shown.binds };
  chains = record { rebases = shown.chains; binds = shown.chains; numbers = shown.chains };
}
