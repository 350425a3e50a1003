-- What dyld binds in an image as a list, and what is shown of each bind.
use Rattle.std.specs.Prelude.{◌≡◌, ℕ, ℤ, pos, List, [], ◌∷◌, codes, length, map, not, Option, Some, None, option_and_then}
use Rattle.std.specs.Prelude.{bytes_eq, Result, Ok, if◌then◌else◌}
use Rattle.std.specs.Ordering.{int_eq}
use Rattle.mach_base.specs.Answer.{◌>>=◌}
use Rattle.mach_base.specs.Fault.{Fault}
use Rattle.mach_dyld.specs.Exports.{text_in}
use Rattle.mach_parts.specs.Bindings.{Binding, binding_view}
use Rattle.mach_parts.specs.Segment.{SegmentView}
use Rattle.goblin_mach.specs.BindingsLeft.{bindings_left}
use Rattle.goblin_mach.specs.Facts.{HasBindings, HasSegments}
use Rattle.goblin_mach.specs.AllStretches.{SegmentStretches, part_with, parts_of, parts_view}
use Rattle.mach_cli.specs.SectionNames.{section_name_with, stretch_name}
use Rattle.mach_cli.specs.Fields.{FieldView, alone_field, field_of, hex, line_field, object_field, optional_text, signed, text, wide_field}
use Rattle.mach_cli.specs.Origins.{ordinal_of, provider_name}
use Rattle.machinfo.specs.PartFields.{column_if, flag_field, text_or_dash}
use Rattle.machinfo.specs.declared.imports.Import.{Import}
use Rattle.machinfo.specs.declared.imports.ImportList.{ImportList}

-- ---- where a pointer is

-- a printed name, none if it is the one of all that have none
abbrev pub unless_dash : List ℕ → Option (List ℕ)
unless_dash name = if bytes_eq name (codes "-") then None else Some name

-- the name of a segment, if it has one
abbrev pub import_segment_name : Option SegmentStretches → Option (List ℕ)
import_segment_name part = option_and_then (λ p. unless_dash (stretch_name p.memory)) part

-- the name of the first section of a segment that holds an address, if it has one
abbrev pub import_section_name : (address : ℕ) → Option SegmentStretches → Option (List ℕ)
import_section_name address part = option_and_then unless_dash (option_and_then (λ p. section_name_with address p.sections) part)

-- ---- what is shown of a bind

-- from which image a symbol comes: its short name; if there is none, only a line has the field, with the ordinal
abbrev pub import_from : Option (List ℕ) → (ordinal : ℤ) → FieldView
import_from (Some name) ordinal = wide_field 20 (field_of (codes "from") (text name) 4)
import_from None ordinal = line_field (signed ordinal) 4

-- The address of the pointer, with its segment and its section; the image that the symbol comes from, and its name; the addend if it
-- isn't 0; whether the symbol may be missing, and whether it is bound at its first use. An object also has the ordinal and the
-- pointer's file offset.
abbrev pub imported_fields : (segment section : Option (List ℕ)) → Binding → List FieldView
imported_fields segment section b =
    wide_field 11 (field_of (codes "address") (hex b.address) 1)
    ∷ field_of (codes "addend") (signed b.addend) (column_if (not (int_eq b.addend (pos 0))) 6)
    ∷ import_from (provider_name b.provider) (ordinal_of b.provider)
    ∷ flag_field (codes "is_lazy") b.is_lazy (codes "lazy") 8
    ∷ flag_field (codes "is_weak") b.is_weak (codes "weak") 7
    ∷ object_field (codes "library") (signed (ordinal_of b.provider))
    ∷ field_of (codes "name") (text b.name) 5
    ∷ object_field (codes "offset") (hex b.offset)
    ∷ alone_field (codes "section") (optional_text section)
    ∷ wide_field 16 (line_field (text (text_or_dash section)) 3)
    ∷ alone_field (codes "segment") (optional_text segment)
    ∷ wide_field 12 (line_field (text (text_or_dash segment)) 2)
    ∷ []

-- a bind of an image with these segments: the segment of its pointer is the first that holds its address
abbrev pub import_shown : List SegmentStretches → Binding → List FieldView
import_shown parts b = imported_fields (import_segment_name (part_with b.address parts)) (import_section_name b.address (part_with b.address parts)) b

-- the fields of items; a fault stays in its place
abbrev pub fields_of_imports : List SegmentStretches → List (Result Binding Fault) → List (Result (List FieldView) Fault)
fields_of_imports parts items = map (λ item. item >>= (λ b. Ok (import_shown parts b))) items

-- These are the fields of what dyld binds in the image at the start of the bytes, in order; or the fault in the place of one that can't
-- be read.
pub record HasImportFields (bytes : List ℕ) (fields : List (Result (List FieldView) Fault)) : Type 0 where
  pub segments : List SegmentView
  pub has_segments : HasSegments bytes 0 segments
  pub items : List (Result Binding Fault)
  pub has_items : HasBindings bytes 0 items
  pub shown : fields ≡ fields_of_imports (parts_of (length bytes) segments) items

-- ---- what the code's values mean

abbrev pub shown_import_view : Import → List FieldView
shown_import_view x = imported_fields (text_in x.segment) (text_in x.section) (binding_view x.binding)

abbrev pub shown_imports_left : {A : Type 0} → ImportList A → List (Result (List FieldView) Fault)
shown_imports_left it = fields_of_imports (parts_view it.parts.now) (bindings_left it.bindings)
