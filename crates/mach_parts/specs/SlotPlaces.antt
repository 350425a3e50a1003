-- Where the slots of a section lie.
use Rattle.std.specs.Prelude.{◌≡◌, ℕ, ◌+◌, ◌*◌, ◌<◌, ◌≤◌, Some}
use Rattle.mach_base.specs.declared.context.Container.{Container}
use Rattle.mach_parts.specs.declared.segment.numbered.NumberedSection.{NumberedSection}
use Rattle.mach_parts.specs.SlotSections.{slot_kind, slot_len}
use Rattle.mach_parts.specs.Slots.{Slot}

-- Slot k of a section: it has the section's numbers, kind and size. It lies
-- inside the section, after k others, and its entry follows those of these k.
pub record IsSlotOfSection (container : Container) (n : NumberedSection) (k : ℕ) (s : Slot) : Type 0 where
  pub of_segment : s.segment ≡ n.segment
  pub of_section : s.section ≡ n.number
  pub of_kind : slot_kind n.section.flags ≡ Some s.kind
  pub of_len : s.len ≡ slot_len container s.kind n.section
  pub sized : 0 < s.len
  pub following : s.address ≡ n.section.addr + k * s.len
  pub inside : s.address + s.len ≤ n.section.addr + n.section.size
  pub entry : s.index ≡ n.section.reserved1 + k
