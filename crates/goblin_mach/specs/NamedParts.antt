-- The segments, sections and symbols of an image by their names (`mach-o/loader.h`, segname and sectname; `mach-o/nlist.h`,
-- n_strx and n_type). A name that can't be read is no name.
use Rattle.std.specs.Prelude.{◌≡◌, ◌≤◌, ℕ, ◌&&◌, not, Bool, false, List, filter_map, find, Option, Some, None, Result, Ok, Err, option_map, slice_get}
use Rattle.std.specs.Prelude.{if◌then◌else◌}
use Rattle.std.specs.List.{enumerate_from}
use Rattle.std.specs.Str.{bytes_eq}
use Rattle.mach_base.specs.Fault.{Fault}
use Rattle.mach_base.specs.Text.{text_at}
use Rattle.mach_parts.specs.SectionRecord.{readable_sections}
use Rattle.mach_parts.specs.Segment.{SegmentView}
use Rattle.mach_parts.specs.Symbols.{SymbolTable, is_stab, table_in_bounds}
use Rattle.mach_parts.specs.declared.segment.numbered.NumberedSection.{NumberedSection}
use Rattle.mach_parts.specs.declared.symbols.nlist.Nlist.{Nlist}
use Rattle.goblin_mach.specs.Subjects.{symbols_in}

-- whether what was read is this name
abbrev pub reads_as : List ℕ → Result (List ℕ) Fault → Bool
reads_as name (Ok found) = bytes_eq found name
reads_as name (Err f) = false

-- the first segment with a name
abbrev pub segment_of_name : List ℕ → List SegmentView → Option SegmentView
segment_of_name name ss = find (λ s. reads_as name (text_at s.command.segname 0)) ss

-- whether a section has these names of its own
abbrev pub is_section : (segment section : List ℕ) → NumberedSection → Bool
is_section segment section n = reads_as segment (text_at n.section.segname 0) && reads_as section (text_at n.section.sectname 0)

-- the first section with these names that is in the bytes
abbrev pub section_of_name : (segment section : List ℕ) → List SegmentView → Option NumberedSection
section_of_name segment section ss = find (is_section segment section) (readable_sections ss)

-- the symbols of a table, if there is one, whose records begin within the bytes: no later one can be read
abbrev pub symbols_within : Option SymbolTable → List (Result (List ℕ × Nlist) Fault)
symbols_within table = symbols_in (option_map table_in_bounds table)

-- item k of a symbol table as an entry of a name, with its number, if it can be read and has the name
abbrev pub numbered_if_named : List ℕ → ℕ → Result (List ℕ × Nlist) Fault → Option (ℕ × Nlist)
numbered_if_named name k (Ok found) = if bytes_eq found.0 name then Some (k, found.1) else None
numbered_if_named name k (Err f) = None

-- all entries of a name with their numbers, in order, debugging entries among them, of items of which the first has a number
abbrev pub symbols_of_name : List ℕ → ℕ → List (Result (List ℕ × Nlist) Fault) → List (ℕ × Nlist)
symbols_of_name name first items = filter_map (λ item. numbered_if_named name item.0 item.1) (enumerate_from first items)

-- the first of them that is no debugging entry
abbrev pub symbol_of_name : List ℕ → List (Result (List ℕ × Nlist) Fault) → Option (ℕ × Nlist)
symbol_of_name name items = find (λ found. not (is_stab found.1)) (symbols_of_name name 0 items)

-- symbol k can be read, has a name, and is no debugging entry
pub record IsSymbolOfName (items : List (Result (List ℕ × Nlist) Fault)) (name : List ℕ) (k : ℕ) (s : Nlist) : Type 0 where
  pub item : slice_get items k ≡ Some (Ok (name, s))
  pub no_stab : is_stab s ≡ false

-- it is the first of these with its number; none exactly if there is none of these
abbrev pub IsFirstNamed : List (Result (List ℕ × Nlist) Fault) → List ℕ → Option (ℕ × Nlist) → Type 0
IsFirstNamed items name None = (k : ℕ) (s : Nlist) → IsSymbolOfName items name k s → ⊥
IsFirstNamed items name (Some found) = IsSymbolOfName items name found.0 found.1 × ((k : ℕ) (s : Nlist) → IsSymbolOfName items name k s → found.0 ≤ k)
