-- The relocations of the sections of an image, as rows (`mach-o/reloc.h`).
use Rattle.std.specs.Prelude.{◌==◌, ◌&&◌, ◌||◌, ◌++◌, ◌∷◌, ℕ, ◌+◌, ◌-◌, ◌%◌, ◌^◌, ℤ, pos, negsuc, Bool, List, [], Option, Some, None, Result, Ok, Err}
use Rattle.std.specs.Prelude.{codes, flat_map, length, map, min, nat_lt, sum_by, take, if◌then◌else◌}
use Rattle.std.specs.Result.{result_unwrap_or}
use Rattle.mach_base.specs.declared.error.Error.{Error}
use Rattle.mach_base.specs.Answer.{◌>>=◌}
use Rattle.mach_base.specs.Fault.{Fault, malformed}
use Rattle.mach_base.specs.Items.{items_in_bounds, read_as}
use Rattle.mach_parts.specs.NumberedLeft.{readable_left}
use Rattle.mach_parts.specs.Relocation.{relocations_at}
use Rattle.mach_parts.specs.RelocationForms.{relocation_form}
use Rattle.mach_parts.specs.RelocationItems.{relocations_left}
use Rattle.mach_parts.specs.RelocationName.{relocation_name}
use Rattle.mach_parts.specs.SectionRecord.{readable_sections, section_by_number}
use Rattle.mach_parts.specs.Segment.{SegmentView}
use Rattle.mach_parts.specs.Symbols.{SymbolTable, symbol_name_at}
use Rattle.mach_parts.specs.declared.relocation.RelocationInfo.{RelocationInfo}
use Rattle.mach_parts.specs.declared.relocation.forms.Relocation.{Relocation}
use Rattle.mach_parts.specs.declared.relocation.forms.Relocation.TheVariants.{Plain, Scattered}
use Rattle.mach_parts.specs.declared.segment.numbered.NumberedSection.{NumberedSection}
use Rattle.goblin_mach.specs.ImageFacts.{Facts, facts_view}
use Rattle.mach_cli.specs.Fields.{FieldView, field_of, alone_field, flag, hex, line_field, number, object_field, optional_text, signed, text, wide_field}
use Rattle.mach_cli.specs.JsonText.{name_in_field}
use Rattle.machinfo.specs.PartFields.{name_of_found, text_or_dash}
use Rattle.machinfo.specs.declared.relocations.RelocationRow.{RelocationRow}
use Rattle.machinfo.specs.declared.relocations.RelocationRows.{RelocationRows}
use Rattle.machinfo.specs.declared.relocations.SectionRelocations.{SectionRelocations}
use Rattle.machinfo.specs.declared.relocations.Target.{Target}
use Rattle.machinfo.specs.declared.relocations.Target.TheVariants as targets

-- ---- what a relocation refers to

-- A symbol, by its number and its name; a section, by its number, and that section if it is known; nothing, since the value is absolute
-- (R_ABS); what the next relocation adds; or, if it is scattered, an address.
pub data RelocationTarget : Type 0 where
  symbol_target : (number : ℕ) → (name : List ℕ) → RelocationTarget
  section_target : (number : ℕ) → Option NumberedSection → RelocationTarget
  absolute_target : RelocationTarget
  addend_target : (addend : ℤ) → RelocationTarget
  value_target : (value : ℕ) → RelocationTarget

-- the symbol of a number, which must be one of the table
abbrev pub target_symbol : Option SymbolTable → ℕ → Result RelocationTarget Fault
target_symbol None k = Err malformed
target_symbol (Some table) k =
    if nat_lt k table.nsyms then symbol_name_at table k >>= (λ name. Ok (symbol_target k name)) else Err malformed

-- The section of a number, if one of the first sixteen segments has it. Sections are counted from 1 over all segments.
abbrev pub section_among_first : List SegmentView → ℕ → Option NumberedSection
section_among_first segments k = result_unwrap_or (section_by_number (take 16 segments) k) None

abbrev pub section_by_its_number : List SegmentView → ℕ → RelocationTarget
section_by_its_number segments k = if k == 0 then absolute_target else section_target k (section_among_first segments k)

-- a number of 24 bits as a signed one, in two's complement
abbrev pub signed_of_24 : ℕ → ℤ
signed_of_24 n = if nat_lt n (2 ^ 23) then pos n else negsuc (2 ^ 24 - (n + 1))

-- ARM64_RELOC_ADDEND, of CPU_TYPE_ARM64 and CPU_TYPE_ARM64_32
abbrev pub has_addend : (cputype kind : ℕ) → Bool
has_addend cputype kind = (cputype == 0x100000c || cputype == 0x200000c) && kind == 10

-- what a plain relocation refers to, by its number (r_symbolnum)
abbrev pub target_by_number : Facts → (number : ℕ) → (is_extern : Bool) → (kind : ℕ) → Result RelocationTarget Fault
target_by_number f k is_extern kind =
    if has_addend f.header.cputype kind then Ok (addend_target (signed_of_24 k))
    else (if is_extern then target_symbol f.symbols k else Ok (section_by_its_number f.segments k))

-- ---- rows

-- A relocation: its section, the type of the cpu, its address in the section, its type, whether the value is relative to the place, the
-- value's length as a power of 2 in bytes, and what it refers to.
pub record RelocationView : Type 0 where
  pub section : NumberedSection
  pub cputype : ℕ
  pub address : ℕ
  pub kind : ℕ
  pub is_pcrel : Bool
  pub length : ℕ
  pub target : RelocationTarget

-- the row of a relocation, or the reason why what it refers to can't be read
abbrev pub row_of_form : Facts → NumberedSection → Relocation → Result RelocationView Fault
row_of_form f s (Plain address k is_pcrel len is_extern kind) =
    target_by_number f k is_extern kind
    >>= (λ target. Ok (record {
      section = s;
      cputype = f.header.cputype;
      address = address;
      kind = kind;
      is_pcrel = is_pcrel;
      length = len;
      target = target;
    }))
row_of_form f s (Scattered address value is_pcrel len kind) =
    Ok (record {
      section = s;
      cputype = f.header.cputype;
      address = address;
      kind = kind;
      is_pcrel = is_pcrel;
      length = len;
      target = value_target value;
    })

abbrev pub row_of_relocation : Facts → NumberedSection → RelocationInfo → Result RelocationView Fault
row_of_relocation f s r = row_of_form f s (relocation_form f.header.cputype f.ctx.le r)

-- all relocations that a section claims, each one or why it can't be read
abbrev pub relocations_claimed : Facts → NumberedSection → List (Result RelocationInfo Fault)
relocations_claimed f s = relocations_at f.ctx.le f.bytes s.section.reloff s.section.nreloc

-- the rows of some of them
abbrev pub rows_of_relocations : Facts → NumberedSection → List (Result RelocationInfo Fault) → List (Result RelocationView Fault)
rows_of_relocations f s items = map (λ item. item >>= row_of_relocation f s) items

-- the rows of a section's relocations, of those that begin within the bytes
abbrev pub section_relocations : Facts → NumberedSection → List (Result RelocationView Fault)
section_relocations f s = rows_of_relocations f s (items_in_bounds (relocations_claimed f s))

-- the rows of the sections that lie in their segment's command, in order
abbrev pub image_relocations : Facts → List (Result RelocationView Fault)
image_relocations f = flat_map (section_relocations f) (readable_sections f.segments)

-- how many more relocations a section claims past the end of the bytes
abbrev pub section_relocations_past : Facts → NumberedSection → ℕ
section_relocations_past f s = length (relocations_claimed f s) - length (items_in_bounds (relocations_claimed f s))

-- how many more these sections claim, at most the last number of 64 bits
abbrev pub image_relocations_past : Facts → ℕ
image_relocations_past f = min (sum_by (section_relocations_past f) (readable_sections f.segments)) (2 ^ 64 - 1)

-- ---- fields

-- The segment's name and the section's, the address, the type, whether the value is relative to the place, and its length in bytes. An
-- object also has the number of the type, and the length as a power of 2.
abbrev pub relocation_members : RelocationView → List FieldView
relocation_members r =
    let segment = name_in_field r.section.section.segname in
    let section = name_in_field r.section.section.sectname in
    alone_field (codes "segment") (optional_text segment)
    ∷ wide_field 12 (line_field (text (text_or_dash segment)) 1)
    ∷ alone_field (codes "section") (optional_text section)
    ∷ wide_field 16 (line_field (text (text_or_dash section)) 2)
    ∷ wide_field 8 (field_of (codes "address") (hex r.address) 3)
    ∷ wide_field 23 (field_of (codes "type") (text (relocation_name r.kind r.cputype)) 4)
    ∷ object_field (codes "type_number") (number r.kind)
    ∷ field_of (codes "is_pcrel") (flag r.is_pcrel (codes "pcrel") (codes "-")) 6
    ∷ object_field (codes "length") (number r.length)
    ∷ field_of (codes "size") (number (2 ^ (r.length % 4))) 7
    ∷ []

-- the name of a section, which a line has only if it is known
abbrev pub target_name : Option (List ℕ) → FieldView
target_name None = alone_field (codes "name") (optional_text None)
target_name (Some name) = field_of (codes "name") (text name) 5

-- what it refers to: of a symbol a line has only the name
abbrev pub target_members : RelocationTarget → List FieldView
target_members (symbol_target k name) =
    object_field (codes "target") (text (codes "symbol"))
    ∷ object_field (codes "number") (number k)
    ∷ field_of (codes "name") (text name) 5
    ∷ []
target_members (section_target k found) =
    field_of (codes "target") (text (codes "section")) 5
    ∷ field_of (codes "number") (number k) 5
    ∷ target_name (name_of_found found)
    ∷ []
target_members absolute_target = field_of (codes "target") (text (codes "absolute")) 5 ∷ []
target_members (addend_target addend) = field_of (codes "target") (text (codes "addend")) 5 ∷ field_of (codes "addend") (signed addend) 5 ∷ []
target_members (value_target value) = field_of (codes "target") (text (codes "value")) 5 ∷ field_of (codes "value") (hex value) 5 ∷ []

abbrev pub relocation_row_fields : RelocationView → List FieldView
relocation_row_fields r = relocation_members r ++ target_members r.target

-- ---- what the code's values mean

abbrev pub target_view : Target → RelocationTarget
target_view (targets.Symbol k name) = symbol_target k name.now
target_view (targets.Section k found) = section_target k found
target_view targets.Absolute = absolute_target
target_view (targets.Addend addend) = addend_target addend
target_view (targets.Value value) = value_target value

abbrev pub relocation_view : RelocationRow → RelocationView
relocation_view r =
    record {
      section = r.section;
      cputype = r.cputype;
      address = r.address;
      kind = r.kind;
      is_pcrel = r.is_pcrel;
      length = r.length;
      target = target_view r.target;
    }

abbrev pub relocation_row_read : Result RelocationRow Error → Result RelocationView Fault
relocation_row_read item = read_as relocation_view item

-- the rows that are left of the current section, if there is one
abbrev pub current_rows_left : Facts → Option SectionRelocations → List (Result RelocationView Fault)
current_rows_left f None = []
current_rows_left f (Some current) = rows_of_relocations f current.section (relocations_left current.relocations)

-- and those of the sections after it
abbrev pub relocation_rows_left : {A : Type 0} → RelocationRows A → List (Result RelocationView Fault)
relocation_rows_left it =
    let f = facts_view it.image.now in
    current_rows_left f it.current ++ flat_map (section_relocations f) (readable_left it.sections)
