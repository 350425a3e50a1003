-- The commands that name the lists of an image (`mach-o/loader.h`, struct dyld_info_command, LC_FUNCTION_STARTS), and the
-- faults of these lists.
use Rattle.std.specs.Prelude.{ℕ, filter_map, Option, Some, None}
use Rattle.std.specs.List.{last_or}
use Rattle.mach_load.specs.Command.{Command}
use Rattle.mach_load.specs.Commands.{Kind, dyld_info, dyld_info_only, function_starts}
use Rattle.mach_layout.specs.Laid.{Laid}
use Rattle.mach_layout.specs.Symbols.{fault_at}
use Rattle.mach_layout.specs.declared.lists.PlacedDyldInfo.{PlacedDyldInfo}
use Rattle.mach_layout.specs.declared.lists.PlacedStarts.{PlacedStarts}
use Rattle.mach_layout.specs.declared.fault.LayoutFault.{LayoutFault}
use Rattle.mach_layout.specs.declared.fault.Part.{Part}
use Rattle.mach_layout.specs.declared.fault.Part.TheVariants as part
use Rattle.mach_layout.specs.declared.fault.Rule.{Rule}
use Rattle.mach_layout.specs.declared.fault.Rule.TheVariants as rule

abbrev pub dyld_info_by : Kind → ℕ → Option PlacedDyldInfo
dyld_info_by dyld_info place = Some (record { place = place })
dyld_info_by dyld_info_only place = Some (record { place = place })
dyld_info_by _ place = None

-- the place of a command with opcodes, if it is one
abbrev pub dyld_info_of : Command → Option PlacedDyldInfo
dyld_info_of c = dyld_info_by c.kind c.offset

abbrev pub place_or_zero : Option PlacedDyldInfo → ℕ
place_or_zero None = 0
place_or_zero (Some c) = c.place

-- the place of the last one
abbrev pub opcodes_command : Laid → ℕ
opcodes_command laid = place_or_zero (last_or None (filter_map dyld_info_of laid.commands))

abbrev pub function_starts_by : Kind → ℕ → Option PlacedStarts
function_starts_by function_starts place = Some (record { place = place })
function_starts_by _ place = None

-- the place of a command with function starts, if it is one
abbrev pub function_starts_of : Command → Option PlacedStarts
function_starts_of c = function_starts_by c.kind c.offset

abbrev pub starts_place_or_zero : Option PlacedStarts → ℕ
starts_place_or_zero None = 0
starts_place_or_zero (Some c) = c.place

-- the place of the last one
abbrev pub starts_command : Laid → ℕ
starts_command laid = starts_place_or_zero (last_or None (filter_map function_starts_of laid.commands))

-- the fault of a rule for opcodes that have a fault
abbrev pub opcodes_fault : Rule → Part → Laid → LayoutFault
opcodes_fault r p laid = fault_at r p (opcodes_command laid) 0 0 0

-- the fault for function starts that have one
abbrev pub function_starts_fault : Laid → LayoutFault
function_starts_fault laid = fault_at rule.FunctionStarts part.FunctionStarts (starts_command laid) 0 0 0
