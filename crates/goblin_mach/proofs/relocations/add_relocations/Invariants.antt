use Rattle.std.proofs.Common.{◌≡◌, ◌+◌, ◌<◌, ◌^◌, length, map}
use Rattle.std.specs.Iterator.Adapters.{enumerate_count, enumerate_source}
use Rattle.mach_parts.specs.Segment.{segment_view}
use Rattle.mach_parts.specs.SectionItems.{sections_left}
use Rattle.goblin_mach.specs.Relocations.{relocated_view, with_front, relocated_sections_of}
use Rattle.goblin_mach.proofs.RelocationLists.{left_from}
use Rattle.goblin_mach.proofs.relocations.add_relocations.Given as goal

abbrev pub invariant-sections : goal.invariant-sections
invariant-sections g l = record {
  fits : enumerate_count l.number-iterator + length (sections_left (enumerate_source l.number-iterator)) < 2 ^ 64;
  listed : with_front (map relocated_view l.initial.found.items) (relocated_sections_of l.ctx l.bytes (segment_view l.segment))
      ≡ with_front (map relocated_view l.found.items) (left_from l.ctx l.bytes (enumerate_count l.number-iterator)
      (sections_left (enumerate_source l.number-iterator)));
}
