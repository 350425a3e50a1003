-- The items that an iterator over the faults of special slots has left.
use Rattle.std.specs.Prelude.{ℕ, ◌+◌, List, ◌++◌, Option}
use Rattle.std.specs.Borrow.{Bor}
use Rattle.std.specs.Option.{option_map}
use Rattle.mach_signature.specs.DirectoryViews.{directory_view, slot_read}
use Rattle.mach_signature.specs.Numbered.{reported_left}
use Rattle.mach_signature.specs.SignViews.{signature_view}
use Rattle.mach_signature.specs.SpecialFaults.{special_fault, unsealed_entry}
use Rattle.mach_signature.specs.SuperBlob.{slot_at}
use Rattle.mach_signature.specs.declared.fault.SpecialFault.{SpecialFault}
use Rattle.mach_signature.specs.declared.special_faults.Entries.{Entries}
use Rattle.mach_signature.specs.declared.special_faults.SpecialFaults.{SpecialFaults}
use Rattle.mach_signature.specs.declared.special_faults.SpecialSlots.{SpecialSlots}

abbrev pub special_slots_reported : SpecialSlots → ℕ
special_slots_reported x = x.directory.head.n_special_slots

abbrev pub special_slot_reported : SpecialSlots → ℕ → Option SpecialFault
special_slot_reported x k = special_fault (directory_view x.directory) (signature_view x.signature) (slot_read x.plist) (k + 1)

abbrev pub entries_reported : Entries → ℕ
entries_reported x = x.signature.count

abbrev pub entry_reported : Entries → ℕ → Option SpecialFault
entry_reported x k = unsealed_entry (directory_view x.directory) (slot_at (signature_view x.signature) k)

abbrev pub special_faults_left : SpecialFaults → List SpecialFault
special_faults_left it = reported_left special_slots_reported special_slot_reported it.slots ++ reported_left entries_reported entry_reported it.entries
