-- A section that was looked up, as C sees it.
use Rattle.std.specs.Prelude.{◌≡◌, ◌⊎◌, ℕ, List, replicate, Option, Some, None, Ok, Err}
use Rattle.std.specs.Str.{IsUtf8}
use Rattle.mach_base.specs.Fault.{Fault, malformed}
use Rattle.mach_parts.specs.SectionRecord.{section_by_number, section_holding}
use Rattle.mach_parts.specs.Segment.{SegmentView}
use Rattle.mach_parts.specs.declared.segment.numbered.NumberedSection.{NumberedSection}
use Rattle.goblin_mach.specs.Facts.{OfImage}
use Rattle.goblin_mach.specs.NamedParts.{section_of_name}
use Rattle.goblin_mach.specs.NearestSymbol.{section_number}
use Rattle.goblin_mach.specs.SlotFacts.{HasSectionOf}
use Rattle.goblin_mach.specs.Subjects.{lossy_segments_in}
use Rattle.goblin_mach_c.specs.Opened.{FaultIn, lossy_mode}
use Rattle.goblin_mach_c.specs.declared.images.gm_image.{gm_image}
use Rattle.goblin_mach_c.specs.declared.section_finds.gm_found_section.{gm_found_section}

-- a section of an image with these segments, or that there is none; its number is that by which symbols name it
abbrev pub found_section_row : List SegmentView → Option NumberedSection → gm_found_section
found_section_row ss (Some n) =
    record {
      name = n.section.sectname;
      segment_name = n.section.segname;
      addr = n.section.addr;
      size = n.section.size;
      segment = n.segment;
      number = section_number ss n;
      index = n.number;
      offset = n.section.offset;
      align = n.section.align;
      reloff = n.section.reloff;
      nreloc = n.section.nreloc;
      flags = n.section.flags;
      reserved1 = n.section.reserved1;
      reserved2 = n.section.reserved2;
      is_found = 1;
      reserved = 0;
    }
found_section_row ss None =
    record {
      name = replicate 16 0;
      segment_name = replicate 16 0;
      addr = 0;
      size = 0;
      segment = 0;
      number = 0;
      index = 0;
      offset = 0;
      align = 0;
      reloff = 0;
      nreloc = 0;
      flags = 0;
      reserved1 = 0;
      reserved2 = 0;
      is_found = 0;
      reserved = 0;
    }

-- the row is that of the section of the image at o that its segments lead to, or that for none
abbrev pub FindsSection : List ℕ → ℕ → (List SegmentView → Option NumberedSection → Type 0) → gm_found_section → Type 0
FindsSection bytes o Finds row =
    OfImage bytes o (λ ctx cs. let ss = lossy_segments_in ctx bytes cs in
    (found : Option NumberedSection) × Finds ss found × (row ≡ found_section_row ss found))

-- the row is that of its first section that holds an address
abbrev pub FindsSectionAt : List ℕ → ℕ → ℕ → gm_found_section → Type 0
FindsSectionAt bytes o a row = FindsSection bytes o (λ ss found. found ≡ section_holding ss a) row

-- the row is that of its section of a number
abbrev pub FindsSectionOf : List ℕ → ℕ → ℕ → gm_found_section → Type 0
FindsSectionOf bytes o n row = FindsSection bytes o (λ ss found. Ok found ≡ section_by_number ss n) row

-- a fault of opening, or of the section
abbrev pub SectionFaultIn : List ℕ → gm_image → ℕ → Fault → Type 0
SectionFaultIn bytes c n f = FaultIn (lossy_mode c.is_lossy) bytes c.offset f ⊎ HasSectionOf bytes c.offset n (Err f)

-- the row is that of the first section with these names of its own
abbrev pub FindsSectionNamed : List ℕ → ℕ → (segment name : List ℕ) → gm_found_section → Type 0
FindsSectionNamed bytes o segment name row = FindsSection bytes o (λ ss found. found ≡ section_of_name segment name ss) row

-- a fault of opening, or of a name
abbrev pub NameFaultIn : List ℕ → gm_image → List ℕ → Fault → Type 0
NameFaultIn bytes c name f = FaultIn (lossy_mode c.is_lossy) bytes c.offset f ⊎ ((f ≡ malformed) × ¬ IsUtf8 name)
