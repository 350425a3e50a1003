-- Rules of the place at which an executable begins to run (`mach-o/loader.h`, struct entry_point_command and thread_command;
-- dyld and the kernel reject an image that breaks one).
use Rattle.std.specs.Prelude.{◌==◌, ◌&&◌, not, ℕ, ◌+◌, Bool, true, false, if◌then◌else◌, nat_lt, nat_le, bit_and, List, []}
use Rattle.std.specs.Prelude.{Option, Some, None, option_to_list, find, Result, Ok, Err}
use Rattle.std.specs.List.{list_any}
use Rattle.mach_base.specs.Fault.{Fault}
use Rattle.mach_base.specs.Record.{Value, number_among}
use Rattle.mach_load.specs.Command.{Command}
use Rattle.mach_load.specs.Commands.{Kind}
use Rattle.mach_load.specs.Commands as kind
use Rattle.mach_load.specs.ThreadState.{pointer_in, state_words}
use Rattle.mach_layout.specs.Commands.{is_of_set}
use Rattle.mach_layout.specs.Header.{header_owner}
use Rattle.mach_layout.specs.Laid.{Laid, used_end, segments_of}
use Rattle.mach_layout.specs.Rules.{measured, sees_there, owner_at, reported}
use Rattle.mach_layout.specs.declared.entry.EntryPlace.{EntryPlace}
use Rattle.mach_layout.specs.declared.entry.EntryPlace.TheVariants.{InFile, InMemory}
use Rattle.mach_layout.specs.declared.fault.LayoutFault.{LayoutFault}
use Rattle.mach_layout.specs.declared.fault.Part.TheVariants as part
use Rattle.mach_layout.specs.declared.fault.Rule.TheVariants as rule
use Rattle.mach_layout.specs.declared.placed_sections.PlacedSegment.{PlacedSegment}
use Rattle.mach_layout.specs.declared.rules.RuleOutcome.{RuleOutcome}

-- whether a command states where the image begins (LC_MAIN, LC_UNIXTHREAD)
abbrev pub is_entry : Command → Bool
is_entry c = is_of_set 6 c

-- the instruction pointer of a thread, if its cpu is known
abbrev pub pointer_place : Result ℕ Fault → Option EntryPlace
pointer_place (Ok address) = Some (InMemory address)
pointer_place (Err f) = None

-- the place that such a command states: in the file, or in memory
abbrev pub entry_place : (cputype : ℕ) → Kind → List Value → Option EntryPlace
entry_place cputype kind.main values = Some (InFile (number_among values 2))
entry_place cputype kind.unixthread values = pointer_place (pointer_in (state_words values) cputype)
entry_place cputype _ values = None

-- the segment is executable by its initial protection (VM_PROT_EXECUTE)
abbrev pub is_code : PlacedSegment → Bool
is_code s = not (bit_and s.command.initprot 4 == 0)

-- a number is one of `len` numbers from a start on
abbrev pub is_among : (start len number : ℕ) → Bool
is_among start len number = nat_le start number && nat_lt number (start + len)

-- the place lies in an executable segment, by its bytes in the file or by its addresses
abbrev pub is_code_at : EntryPlace → PlacedSegment → Bool
is_code_at (InFile place) s = is_code s && is_among s.command.fileoff s.command.filesize place
is_code_at (InMemory address) s = is_code s && is_among s.command.vmaddr s.command.vmsize address

-- a place in the file is after the commands
abbrev pub is_after_commands : Laid → EntryPlace → Bool
is_after_commands laid (InFile place) = nat_le (used_end laid) place
is_after_commands laid (InMemory address) = true

abbrev pub number_of_place : EntryPlace → ℕ
number_of_place (InFile place) = place
number_of_place (InMemory address) = address

-- the place is in an executable segment, after the commands
abbrev pub entry_sees : Laid → EntryPlace → RuleOutcome
entry_sees laid place =
    measured (is_after_commands laid place && list_any (is_code_at place) (segments_of laid)) (number_of_place place) (used_end laid)

-- The first command that states where an executable begins is checked, and there must be one. A second one has a fault of its own.
abbrev pub entry_fault : Laid → Option Command → Option LayoutFault
entry_fault laid None = reported rule.NoEntry header_owner (measured false 0 0)
entry_fault laid (Some c) =
    reported rule.EntryOutOfCode (owner_at part.Entry c.offset 0) (sees_there (entry_place laid.header.cputype c.kind c.values) (entry_sees laid))

-- the faults of the entry of an executable (MH_EXECUTE)
abbrev pub entry_faults : Laid → List LayoutFault
entry_faults laid = if laid.header.filetype == 2 then option_to_list (entry_fault laid (find is_entry laid.commands)) else []
