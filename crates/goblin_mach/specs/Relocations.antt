-- The sections of some segments that have relocations (`mach-o/loader.h`, struct section; `mach-o/reloc.h`).
use Rattle.std.specs.Prelude.{ℕ, List, ◌++◌, Result, Ok, map, nat_lt}
use Rattle.std.specs.List.{enumerate_from, filter, flat_map}
use Rattle.mach_base.specs.declared.context.Ctx.{Ctx}
use Rattle.mach_base.specs.Answer.{◌>>=◌}
use Rattle.mach_base.specs.Fault.{Fault}
use Rattle.mach_base.specs.Items.{all_read}
use Rattle.mach_parts.specs.Relocation.{relocations_at}
use Rattle.mach_parts.specs.RelocationItems.{relocations_left}
use Rattle.mach_parts.specs.Segment.{SegmentView, sections_of}
use Rattle.mach_parts.specs.declared.relocation.RelocationInfo.{RelocationInfo}
use Rattle.mach_parts.specs.declared.segment.relocations.RelocationIterator.{RelocationIterator}
use Rattle.mach_parts.specs.declared.segment.section.Section.{Section}

-- a section with its number in its segment, and its relocations, each one or why it can't be read
abbrev pub RelocatedSection : Type 0
RelocatedSection = ℕ × List (Result RelocationInfo Fault) × Section

-- an entry of the list, as contracts see it: the relocations are those that its iterator still returns
abbrev pub relocated_view : ℕ × RelocationIterator × Section → RelocatedSection
relocated_view entry = (entry.0, relocations_left entry.1, entry.2)

-- a numbered section with its relocations: nreloc of them, from reloff on
abbrev pub relocated_section : Ctx → List ℕ → ℕ × Section → RelocatedSection
relocated_section ctx bytes s = (s.0, relocations_at ctx.le bytes s.1.reloff s.1.nreloc, s.1)

-- the sections of a segment that have relocations, numbered from 0
abbrev pub relocated_sections_among : Ctx → List ℕ → List Section → List RelocatedSection
relocated_sections_among ctx bytes sections =
    map (relocated_section ctx bytes) (filter (λ s. nat_lt 0 s.1.nreloc) (enumerate_from 0 sections))

-- the same of a segment, or the fault of its first section that can't be read
abbrev pub relocated_sections_of : Ctx → List ℕ → SegmentView → Result (List RelocatedSection) Fault
relocated_sections_of ctx bytes segment =
    all_read (sections_of segment) >>= (λ found. Ok (relocated_sections_among ctx bytes (map (λ s. s.0) found)))

-- the same of all segments, one after the other, or the fault of the first segment that has one
abbrev pub relocated_sections_in : Ctx → List ℕ → List SegmentView → Result (List RelocatedSection) Fault
relocated_sections_in ctx bytes segments =
    all_read (map (relocated_sections_of ctx bytes) segments) >>= (λ lists. Ok (flat_map (λ list. list) lists))

-- some that are already in the list, and those that follow them
abbrev pub with_front : List RelocatedSection → Result (List RelocatedSection) Fault → Result (List RelocatedSection) Fault
with_front front more = more >>= (λ list. Ok (front ++ list))
