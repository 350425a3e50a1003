-- The items of a list of an image that are left.
use Rattle.std.specs.Prelude.{List, Option}
use Rattle.mach_base.specs.Fault.{Fault}
use Rattle.mach_dyld.specs.BindLeft.{imports_left}
use Rattle.mach_parts.specs.RelocationItems.{relocations_left}
use Rattle.mach_parts.specs.SectionItems.{sections_left}
use Rattle.mach_parts.specs.SymbolViews.{symbols_left}
use Rattle.goblin_mach.specs.BindingsLeft.{bindings_left}
use Rattle.goblin_mach.specs.FixupsLeft.{image_fixups_left}
use Rattle.mach_audit.specs.Reported.{faults_of_items}
use Rattle.mach_audit.specs.declared.items.Items.{Items}
use Rattle.mach_audit.specs.declared.items.Items.TheVariants.{Sections, Relocations, Symbols, Imports, Fixups, Bindings}

-- the faults of the items that are left; none of an item that can be read
abbrev pub faults_left : Items → List (Option Fault)
faults_left (Sections it) = faults_of_items (sections_left it)
faults_left (Relocations it) = faults_of_items (relocations_left it)
faults_left (Symbols it) = faults_of_items (symbols_left it)
faults_left (Imports it) = faults_of_items (imports_left it)
faults_left (Fixups it) = faults_of_items (image_fixups_left it)
faults_left (Bindings it) = faults_of_items (bindings_left it)
