-- The special slots that are left to print.
use Rattle.std.specs.Prelude.{ℕ, ◌+◌, ◌-◌, List, map, filter_map, Result, Ok}
use Rattle.std.specs.List.{range_with_len}
use Rattle.mach_base.specs.Fault.{Fault}
use Rattle.mach_signature.specs.DirectoryViews.{directory_view}
use Rattle.mach_signature.specs.FaultViews.{signed_view}
use Rattle.mach_signature.specs.Special.{SlotView}
use Rattle.mach_signature.specs.SpecialViews.{special_slot_view}
use Rattle.machsign.specs.Special.{slot_in, slot_reported}
use Rattle.machsign.specs.declared.special.SlotRow.{SlotRow}
use Rattle.machsign.specs.declared.special.SpecialSlots.{SpecialSlots}

abbrev pub slot_row_text : SlotRow → List ℕ
slot_row_text row = slot_reported row.form (special_slot_view row.slot)

abbrev pub slots_yet : SpecialSlots → List SlotView
slots_yet it =
    filter_map (λ k. slot_in it.form (signed_view it.signed) (directory_view it.directory) (k + 1)) (range_with_len it.taken (11 - it.taken))

abbrev pub slot_rows_left : SpecialSlots → List (Result (List ℕ) Fault)
slot_rows_left it = map (λ s. Ok (slot_reported it.form s)) (slots_yet it)
