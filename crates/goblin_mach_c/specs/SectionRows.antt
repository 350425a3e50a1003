-- Sections and relocations as C sees them.
use Rattle.std.specs.Prelude.{ℕ, ◌+◌, ◌-◌, ◌^◌, List, [], ◌∷◌, map, min, replicate, Option, Some, None, Result, Ok, Err, length}
use Rattle.mach_base.specs.Answer.{◌>>=◌}
use Rattle.mach_base.specs.Fault.{Fault}
use Rattle.mach_base.specs.Items.{items_from}
use Rattle.mach_base.specs.declared.context.Ctx.{Ctx}
use Rattle.mach_load.specs.Command.{Command}
use Rattle.mach_load.specs.Subjects.{segment_command_by}
use Rattle.mach_records.specs.declared.segments.SegmentCommand64.{SegmentCommand64}
use Rattle.mach_parts.specs.Relocation.{relocation_item}
use Rattle.mach_parts.specs.Section.{section_item}
use Rattle.mach_parts.specs.Segment.{widened}
use Rattle.mach_parts.specs.declared.relocation.RelocationInfo.{RelocationInfo}
use Rattle.mach_parts.specs.declared.segment.section.Section.{Section}
use Rattle.std.specs.Prelude.{pos}
use Rattle.goblin_mach_c.specs.Codes.{code_of_fault}
use Rattle.goblin_mach_c.specs.CommandRows.{gm_commands_view}
use Rattle.goblin_mach_c.specs.CViews.{gm_ctx_view}
use Rattle.goblin_mach_c.specs.Listed.{listed_in}
use Rattle.goblin_mach_c.specs.declared.images.gm_image.{gm_image}
use Rattle.goblin_mach_c.specs.declared.listed.CommandItems.{CommandItems}
use Rattle.goblin_mach_c.specs.declared.section_list.gm_numbered_section.{gm_numbered_section}
use Rattle.goblin_mach_c.specs.declared.sections.gm_section.{gm_section}
use Rattle.goblin_mach_c.specs.declared.relocations.gm_relocation.{gm_relocation}

-- a section with its data, or why it can't be read
abbrev pub section_row : Result (Section × List ℕ) Fault → gm_section
section_row (Ok found) =
    record {
      name = found.0.sectname;
      segment = found.0.segname;
      addr = found.0.addr;
      size = found.0.size;
      data_len = length found.1;
      offset = found.0.offset;
      align = found.0.align;
      reloff = found.0.reloff;
      nreloc = found.0.nreloc;
      flags = found.0.flags;
      code = 0;
    }
section_row (Err f) =
    record {
      name = replicate 16 0;
      segment = replicate 16 0;
      addr = 0;
      size = 0;
      data_len = 0;
      offset = 0;
      align = 0;
      reloff = 0;
      nreloc = 0;
      flags = 0;
      code = code_of_fault f;
    }

-- `count` sections after the command of a segment
abbrev pub section_rows : List ℕ → gm_image → ℕ → ℕ → List gm_section
section_rows bytes image command count = items_from (λ k. section_row (section_item (gm_ctx_view image) bytes command k)) 0 count

-- ---- the sections of all segments

-- how many sections a command claims: none if it is no segment
abbrev pub count_of_segment : Option SegmentCommand64 → ℕ
count_of_segment None = 0
count_of_segment (Some s) = s.nsects

abbrev pub claimed_section_count : Command → ℕ
claimed_section_count c = count_of_segment (segment_command_by widened c.kind c.values)

-- a section with the place of its command and its index there
abbrev pub placed_section : Ctx → List ℕ → ℕ → ℕ → Result (ℕ × ℕ × (Section × List ℕ)) Fault
placed_section ctx bytes command k = section_item ctx bytes command k >>= λ found. Ok (command, k, found)

abbrev pub placed_sections : Ctx → List ℕ → ℕ → ℕ → ℕ → List (Result (ℕ × ℕ × (Section × List ℕ)) Fault)
placed_sections ctx bytes command first count = items_from (placed_section ctx bytes command) first count

abbrev pub numbered_section_row : Result (ℕ × ℕ × (Section × List ℕ)) Fault → gm_numbered_section
numbered_section_row (Ok found) = record { section = section_row (Ok found.2); command = found.0; number = 0; index = found.1; reserved = 0 }
numbered_section_row (Err f) = record { section = section_row (Err f); command = 0; number = 0; index = 0; reserved = 0 }

-- rows with their numbers, after so many sections: each has the number after the one before it, at most 2^64 - 1
abbrev pub with_numbers : ℕ → List gm_numbered_section → List gm_numbered_section
with_numbers before [] = []
with_numbers before (row ∷ rows) =
    let number = min (before + 1) (2 ^ 64 - 1) in
    record { section = row.section; command = row.command; number = number; index = row.index; reserved = row.reserved } ∷ with_numbers number rows

-- the sections of a command, and what is left of them
abbrev pub sections_of_command : Ctx → List ℕ → Command → List (Result (ℕ × ℕ × (Section × List ℕ)) Fault)
sections_of_command ctx bytes c = placed_sections ctx bytes c.offset 0 (claimed_section_count c)

abbrev pub sections_of_part : Ctx → List ℕ → CommandItems → List (Result (ℕ × ℕ × (Section × List ℕ)) Fault)
sections_of_part ctx bytes p = placed_sections ctx bytes p.command p.index (p.count - p.index)

-- the rows of an image, up to the first section that can't be read; the first has number 1
abbrev pub all_section_rows : List ℕ → gm_image → List gm_numbered_section
all_section_rows bytes image =
    with_numbers 0 (map numbered_section_row (listed_in (sections_of_command (gm_ctx_view image) bytes) (gm_commands_view bytes image)))

-- ---- relocations

-- a relocation, or why it can't be read
abbrev pub relocation_row : Result RelocationInfo Fault → gm_relocation
relocation_row (Ok r) = record { address = r.r_address; info = r.r_info; code = 0 }
relocation_row (Err f) = record { address = pos 0; info = 0; code = code_of_fault f }

-- `count` relocations from a place on
abbrev pub relocation_rows : List ℕ → gm_image → ℕ → ℕ → List gm_relocation
relocation_rows bytes image reloff count = items_from (λ k. relocation_row (relocation_item (gm_ctx_view image).le bytes reloff k)) 0 count
