-- What the bytes say of the segments, sections, symbols, functions and offsets that are looked up in the image that opens at a place.
use Rattle.std.specs.Prelude.{◌≡◌, ℕ, List, Option, Result}
use Rattle.mach_base.specs.Fault.{Fault}
use Rattle.mach_parts.specs.SectionRecord.{section_holding}
use Rattle.mach_parts.specs.Segment.{SegmentView}
use Rattle.mach_parts.specs.declared.segment.numbered.NumberedSection.{NumberedSection}
use Rattle.mach_parts.specs.declared.symbols.nlist.Nlist.{Nlist}
use Rattle.goblin_mach.specs.Facts.{OfImage}
use Rattle.goblin_mach.specs.FileOffsets.{address_at_offset, offset_at_address}
use Rattle.goblin_mach.specs.Fixups.{base_of}
use Rattle.goblin_mach.specs.NamedParts.{section_of_name, segment_of_name, symbol_of_name, symbols_of_name, symbols_within}
use Rattle.goblin_mach.specs.NearestSymbol.{IsFunctionAt, IsSymbolAt}
use Rattle.goblin_mach.specs.Subjects.{lossy_segments_in, table_in}
use Rattle.goblin_mach.specs.Tables.{AreStartsAt, starts_place_in}
use Rattle.goblin_mach.specs.declared.macho.nearest.Function.{Function}
use Rattle.goblin_mach.specs.declared.macho.nearest.SymbolAt.{SymbolAt}

-- its first segment with a name
abbrev pub HasSegmentNamed : List ℕ → ℕ → List ℕ → Option SegmentView → Type 0
HasSegmentNamed bytes o name found = OfImage bytes o (λ ctx cs. found ≡ segment_of_name name (lossy_segments_in ctx bytes cs))

-- its first section with these names of its own
abbrev pub HasSectionNamed : List ℕ → ℕ → (segment section : List ℕ) → Option NumberedSection → Type 0
HasSectionNamed bytes o segment section found = OfImage bytes o (λ ctx cs. found ≡ section_of_name segment section (lossy_segments_in ctx bytes cs))

-- its first symbol with a name that is no debugging entry
abbrev pub HasSymbolNamed : List ℕ → ℕ → List ℕ → Option (ℕ × Nlist) → Type 0
HasSymbolNamed bytes o name found = OfImage bytes o (λ ctx cs. found ≡ symbol_of_name name (symbols_within (table_in ctx bytes cs)))

-- all its symbols with a name, debugging entries among them
abbrev pub HasSymbolsNamed : List ℕ → ℕ → List ℕ → List (ℕ × Nlist) → Type 0
HasSymbolsNamed bytes o name found = OfImage bytes o (λ ctx cs. found ≡ symbols_of_name name 0 (symbols_within (table_in ctx bytes cs)))

-- its symbol at an address
abbrev pub HasSymbolAt : List ℕ → ℕ → ℕ → Option SymbolAt → Type 0
HasSymbolAt bytes o a found =
    OfImage bytes o (λ ctx cs. IsSymbolAt (lossy_segments_in ctx bytes cs) (symbols_within (table_in ctx bytes cs))
    (section_holding (lossy_segments_in ctx bytes cs) a) a found)

-- its function at an address
abbrev pub HasFunctionAt : List ℕ → ℕ → ℕ → Option Function → Type 0
HasFunctionAt bytes o a found =
    OfImage bytes o (λ ctx cs. (items : List (Result ℕ Fault)) → AreStartsAt bytes (starts_place_in cs) (base_of (lossy_segments_in ctx bytes cs)) items
    → IsFunctionAt items (section_holding (lossy_segments_in ctx bytes cs) a) a found)

-- the address of a file offset
abbrev pub HasAddressOf : List ℕ → ℕ → ℕ → Option ℕ → Type 0
HasAddressOf bytes o offset found = OfImage bytes o (λ ctx cs. found ≡ address_at_offset (lossy_segments_in ctx bytes cs) offset)

-- the file offset of an address
abbrev pub HasOffsetOf : List ℕ → ℕ → ℕ → Option ℕ → Type 0
HasOffsetOf bytes o address found = OfImage bytes o (λ ctx cs. found ≡ offset_at_address (lossy_segments_in ctx bytes cs) address)
