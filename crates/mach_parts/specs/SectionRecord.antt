-- Sections in their 64-bit form with all fields, numbered over all segments of an
-- image (`mach-o/loader.h`, struct section and section_64; `mach-o/nlist.h`, n_sect).
use Rattle.std.specs.Prelude.{◌==◌, ℕ, ◌+◌, ◌-◌, ◌&&◌, Bool, List, [], ◌∷◌, ◌++◌, find, Option, Some, None, Result, Ok, Err, nat_le, nat_lt}
use Rattle.std.specs.Prelude.{if◌then◌else◌, slice_get}
use Rattle.mach_base.specs.declared.context.Endian.{Endian}
use Rattle.mach_base.specs.declared.context.Container.{Container}
use Rattle.mach_base.specs.declared.context.Container.TheVariants.{Little, Big}
use Rattle.mach_base.specs.Answer.{◌>>=◌}
use Rattle.mach_base.specs.Fault.{Fault}
use Rattle.mach_base.specs.Items.{items_from}
use Rattle.mach_base.specs.Number.{slice_at}
use Rattle.mach_base.specs.Record.{record_at}
use Rattle.mach_records.specs.Segments.{section32_fields, section32_of_values, section64_fields, section64_of_values}
use Rattle.mach_records.specs.declared.segments.Section32.{Section32}
use Rattle.mach_records.specs.declared.segments.Section64.{Section64}
use Rattle.mach_parts.specs.Section.{is_zero_fill, own_sections, section_place}
use Rattle.mach_parts.specs.Segment.{SegmentView}
use Rattle.mach_parts.specs.declared.segment.numbered.NumberedSection.{NumberedSection}

-- the section of a 32-bit image in the 64-bit form
abbrev pub wider_section : Section32 → Section64
wider_section s =
    record {
      sectname = s.sectname;
      segname = s.segname;
      addr = s.addr;
      size = s.size;
      offset = s.offset;
      align = s.align;
      reloff = s.reloff;
      nreloc = s.nreloc;
      flags = s.flags;
      reserved1 = s.reserved1;
      reserved2 = s.reserved2;
      reserved3 = 0;
    }

-- the section at a place, or the reason why there is none
abbrev pub section_record_at : Container → Endian → List ℕ → ℕ → Result Section64 Fault
section_record_at Little le bytes place = record_at le section32_fields bytes place >>= (λ vs. Ok (wider_section (section32_of_values vs)))
section_record_at Big le bytes place = record_at le section64_fields bytes place >>= (λ vs. Ok (section64_of_values vs))

-- the bytes of a section among those of its image, of which a zero-filled one has none; or the reason why they aren't there
abbrev pub bytes_of_section : List ℕ → Section64 → Result (List ℕ) Fault
bytes_of_section bytes s = if is_zero_fill s.flags then Ok [] else slice_at s.size bytes s.offset

-- the items before the first fault
abbrev pub in_front : {X : Type 0} → List (Result X Fault) → List X
in_front [] = []
in_front (Ok x ∷ items) = x ∷ in_front items
in_front (Err f ∷ items) = []

-- section k of the segment with number n, or the reason why there is none
abbrev pub numbered_section : ℕ → SegmentView → ℕ → Result NumberedSection Fault
numbered_section n s k =
    section_record_at s.ctx.container s.ctx.le s.file (section_place s.ctx.container s.offset k)
    >>= (λ found. Ok (record { segment = n; number = k; section = found }))

-- the sections of a segment from number k on
abbrev pub numbered_from : ℕ → SegmentView → ℕ → List (Result NumberedSection Fault)
numbered_from n s k = items_from (numbered_section n s) k (s.command.nsects - k)

-- the sections of some segments, the first of which has number n
abbrev pub numbered_in : ℕ → List SegmentView → List (Result NumberedSection Fault)
numbered_in n [] = []
numbered_in n (s ∷ ss) = numbered_from n s 0 ++ numbered_in (n + 1) ss

-- all sections of an image's segments, each as a section or as the reason why there is none
abbrev pub numbered_sections : List SegmentView → List (Result NumberedSection Fault)
numbered_sections ss = numbered_in 0 ss

-- how many sections of a segment have their record in its command
abbrev pub sections_held : SegmentView → ℕ
sections_held s = own_sections s.ctx.container s.command.cmdsize s.command.nsects

-- these sections from number k on
abbrev pub held_from : ℕ → SegmentView → ℕ → List (Result NumberedSection Fault)
held_from n s k = items_from (numbered_section n s) k (sections_held s - k)

-- for each segment the sections before the first that does not lie in the bytes; no later one does
abbrev pub readable_in : ℕ → List SegmentView → List NumberedSection
readable_in n [] = []
readable_in n (s ∷ ss) = in_front (held_from n s 0) ++ readable_in (n + 1) ss

-- all sections of an image's segments that are in their segment's command and in the bytes
abbrev pub readable_sections : List SegmentView → List NumberedSection
readable_sections ss = readable_in 0 ss

-- whether a section holds an address
abbrev pub holds_address : ℕ → NumberedSection → Bool
holds_address a n = nat_le n.section.addr a && nat_lt a (n.section.addr + n.section.size)

-- the first section that holds an address
abbrev pub section_holding : List SegmentView → ℕ → Option NumberedSection
section_holding ss a = find (holds_address a) (readable_sections ss)

-- an item, if there is one
abbrev pub item_if_any : {X : Type 0} → Option (Result X Fault) → Result (Option X) Fault
item_if_any None = Ok None
item_if_any (Some (Ok x)) = Ok (Some x)
item_if_any (Some (Err f)) = Err f

-- the section that a symbol's `n_sect` names: sections are counted from 1 over all segments, and 0 means none
abbrev pub section_by_number : List SegmentView → ℕ → Result (Option NumberedSection) Fault
section_by_number ss n = if n == 0 then Ok None else item_if_any (slice_get (numbered_sections ss) (n - 1))
