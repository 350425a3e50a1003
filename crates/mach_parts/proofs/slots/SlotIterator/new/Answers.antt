use Rattle.std.proofs.Common.{ℕ, ◌++◌, ◌∙◌, [], List, Result, ap, flat_map, map}
use Rattle.mach_base.specs.Fault.{Fault}
use Rattle.mach_parts.specs.NumberedLeft.{numbered_left}
use Rattle.mach_parts.specs.Segment.{segment_view}
use Rattle.mach_parts.proofs.ReadyLists.{none_ready}
use Rattle.mach_parts.specs.ReadySlots.{ready_slots}
use Rattle.mach_parts.specs.Slots.{Slot, SlotTables, section_slots, slots_of}
use Rattle.mach_parts.specs.SlotViews.{held_tables_of}
use Rattle.mach_parts.proofs.slots.SlotIterator.new.Goals as goal

pub returns : goal.returns
returns c =
    let t = held_tables_of c.held.result in
    let s = c.none.result in
    let others = flat_map (section_slots t) (numbered_left c.new.result) in
    ap (λ (many : ℕ). (ready_slots t s.run many s.entries.now s.address s.index ++ []) ++ others) c.none.ensures
    ∙ (ap (λ (ready : List (Result Slot Fault)). (ready ++ []) ++ others) (none_ready t s.run s.entries.now s.address s.index)
    ∙ (ap (flat_map (section_slots t)) c.new.ensures
    ∙ ap (λ (tables : SlotTables). slots_of tables (map segment_view c.args.segments.now)) c.held.ensures))
