-- What the rows of parts of an image show, field by field: as lines, and as objects of JSON (`mach-o/loader.h`).
use Rattle.std.specs.Prelude.{◌==◌, ◌&&◌, ◌∷◌, ◌++◌, ℕ, ◌-◌, ◌/◌, ◌%◌, List, []}
use Rattle.std.specs.Prelude.{codes, drop, length, map, bit_and, bytes_eq, Bool, not, Option, Some, None, option_map, Result, Ok, if◌then◌else◌}
use Rattle.std.specs.List.{enumerate_from}
use Rattle.mach_base.specs.Fault.{Fault}
use Rattle.mach_base.specs.Named.{Named, name_or}
use Rattle.mach_base.specs.Text.{texts}
use Rattle.mach_parts.specs.Cpu.{caps_of_cpu, kind_of_cpu}
use Rattle.mach_parts.specs.HeaderNames.{flag_name, flag_names}
use Rattle.mach_parts.specs.Segment.{SegmentView, segment_view}
use Rattle.mach_parts.specs.declared.header.Header.{Header}
use Rattle.mach_parts.specs.declared.segment.numbered.NumberedSection.{NumberedSection}
use Rattle.mach_records.specs.declared.segments.Section64.{Section64}
use Rattle.mach_cli.specs.Fields.{FieldView, ValueView, alone_field, field_of, flag, hex, line_field, named, number, object_field, optional_text}
use Rattle.mach_cli.specs.Fields.{text, uuid, wide_field}
use Rattle.mach_records.specs.CpuNames.{arch_rows, cpu_named}
use Rattle.mach_cli.specs.ImageKinds.{image_kind}
use Rattle.machinfo.specs.Parts.{EntryView}
use Rattle.mach_cli.specs.JsonText.{if_not_empty, name_in_field}
use Rattle.mach_records.specs.NumberNames.{rights_text}
use Rattle.machinfo.specs.HeaderWords.{flag_short_name}
use Rattle.machinfo.specs.declared.parts.NumberedPaths.{NumberedPaths}
use Rattle.machinfo.specs.declared.parts.NumberedSegments.{NumberedSegments}
use Rattle.machinfo.specs.declared.parts.UuidRow.{UuidRow}
use Rattle.machinfo.specs.declared.sections.SectionRow.{SectionRow}

-- a text, `-` if there is none or it is empty
abbrev pub text_or_dash : Option (List ℕ) → List ℕ
text_or_dash None = codes "-"
text_or_dash (Some t) = if length t == 0 then codes "-" else t

-- a name, or nothing if it is the one of all that have none
abbrev pub if_known : (unknown name : List ℕ) → List ℕ
if_known unknown name = if bytes_eq name unknown then [] else name

-- the column of a field that a line has only if something is so
abbrev pub column_if : Bool → (column : ℕ) → ℕ
column_if is_so column = if is_so then column else 0

-- a flag, of which a line has the word if it is so
abbrev pub flag_field : (name : List ℕ) → Bool → (word : List ℕ) → (column : ℕ) → FieldView
flag_field name is_so word column = field_of name (flag is_so word []) (column_if is_so column)

-- a protection by its letters
abbrev pub protection : ℕ → ValueView
protection rights = named rights (rights_text rights)

-- ---- segments (struct segment_command_64)

-- The name, the address, the size, the range in the file, and both protections; `!` if the memory may become writable and
-- executable at once (VM_PROT_WRITE, VM_PROT_EXECUTE); and the flags that are set (SG_).
abbrev pub segment_part_fields : ℕ × SegmentView → List FieldView
segment_part_fields found =
    let c = found.1.command in
    let name = name_in_field c.segname in
    object_field (codes "number") (number found.0)
    ∷ alone_field (codes "name") (optional_text name)
    ∷ wide_field 12 (line_field (text (text_or_dash name)) 1)
    ∷ wide_field 11 (field_of (codes "address") (hex c.vmaddr) 2)
    ∷ wide_field 11 (field_of (codes "size") (hex c.vmsize) 3)
    ∷ wide_field 10 (field_of (codes "file_offset") (hex c.fileoff) 4)
    ∷ wide_field 10 (field_of (codes "file_size") (hex c.filesize) 5)
    ∷ field_of (codes "initial_protection") (protection c.initprot) 6
    ∷ field_of (codes "maximum_protection") (protection c.maxprot) 7
    ∷ object_field (codes "sections") (number c.nsects)
    ∷ object_field (codes "flags") (hex c.flags)
    ∷ flag_field (codes "is_writable_code") (not (bit_and c.maxprot 2 == 0) && not (bit_and c.maxprot 4 == 0)) (codes "!") 8
    ∷ flag_field (codes "is_high_vm") (not (bit_and c.flags 1 == 0)) (codes "high-vm") 9
    ∷ flag_field (codes "is_fvmlib") (not (bit_and c.flags 2 == 0)) (codes "fvmlib") 9
    ∷ flag_field (codes "is_noreloc") (not (bit_and c.flags 4 == 0)) (codes "noreloc") 9
    ∷ flag_field (codes "is_protected") (not (bit_and c.flags 8 == 0)) (codes "protected") 9
    ∷ flag_field (codes "is_read_only") (not (bit_and c.flags 0x10 == 0)) (codes "read-only") 9
    ∷ []

-- ---- sections (struct section_64)

-- types of sections (S_)
abbrev pub section_types : List Named
section_types =
    record { number = 0x0; name = codes "regular" }
    ∷ record { number = 0x1; name = codes "zerofill" }
    ∷ record { number = 0x2; name = codes "cstring literals" }
    ∷ record { number = 0x3; name = codes "4-byte literals" }
    ∷ record { number = 0x4; name = codes "8-byte literals" }
    ∷ record { number = 0x5; name = codes "literal pointers" }
    ∷ record { number = 0x6; name = codes "non-lazy symbol pointers" }
    ∷ record { number = 0x7; name = codes "lazy symbol pointers" }
    ∷ record { number = 0x8; name = codes "symbol stubs" }
    ∷ record { number = 0x9; name = codes "module init function pointers" }
    ∷ record { number = 0xa; name = codes "module term function pointers" }
    ∷ record { number = 0xb; name = codes "coalesced" }
    ∷ record { number = 0xc; name = codes "gb zerofill" }
    ∷ record { number = 0xd; name = codes "interposing" }
    ∷ record { number = 0xe; name = codes "16-byte literals" }
    ∷ record { number = 0xf; name = codes "dtrace dof" }
    ∷ record { number = 0x10; name = codes "lazy dylib symbol pointers" }
    ∷ record { number = 0x11; name = codes "thread-local regular" }
    ∷ record { number = 0x12; name = codes "thread-local zerofill" }
    ∷ record { number = 0x13; name = codes "thread-local variables" }
    ∷ record { number = 0x14; name = codes "thread-local variable pointers" }
    ∷ record { number = 0x15; name = codes "thread-local init function pointers" }
    ∷ record { number = 0x16; name = codes "init function offsets" }
    ∷ []

-- the words for a type, none if it has no name
abbrev pub section_type_name : ℕ → List ℕ
section_type_name kind = name_or [] section_types kind

-- The number, the segment's name and its own, the address, the size, the place in the file, and the type (SECTION_TYPE). An
-- object also has the alignment as a power of 2, the attributes (SECTION_ATTRIBUTES), the relocations and the reserved fields.
abbrev pub section_members : SectionRow → List FieldView
section_members row =
    let s = row.section.section in
    let segment = name_in_field s.segname in
    let name = name_in_field s.sectname in
    let type_name = section_type_name (s.flags % 0x100) in
    wide_field 3 (field_of (codes "number") (number row.number) 1)
    ∷ object_field (codes "segment_number") (number row.section.segment)
    ∷ alone_field (codes "segment") (optional_text segment)
    ∷ wide_field 12 (line_field (text (text_or_dash segment)) 2)
    ∷ alone_field (codes "name") (optional_text name)
    ∷ wide_field 16 (line_field (text (text_or_dash name)) 3)
    ∷ wide_field 11 (field_of (codes "address") (hex s.addr) 4)
    ∷ wide_field 8 (field_of (codes "size") (hex s.size) 5)
    ∷ wide_field 8 (field_of (codes "file_offset") (hex s.offset) 6)
    ∷ field_of (codes "type") (named (s.flags % 0x100) type_name) 7
    ∷ alone_field (codes "type_name") (optional_text (if_not_empty (Some type_name)))
    ∷ object_field (codes "align") (number s.align)
    ∷ object_field (codes "attributes") (hex (s.flags - s.flags % 0x100))
    ∷ object_field (codes "relocation_offset") (hex s.reloff)
    ∷ object_field (codes "relocations") (number s.nreloc)
    ∷ object_field (codes "reserved1") (number s.reserved1)
    ∷ object_field (codes "reserved2") (number s.reserved2)
    ∷ object_field (codes "reserved3") (number s.reserved3)
    ∷ []

-- how many stubs a section of the type S_SYMBOL_STUBS has, by the size of one (reserved2)
abbrev pub stubs_in : Section64 → ℕ
stubs_in s = if s.flags % 0x100 == 8 && not (s.reserved2 == 0) then s.size / s.reserved2 else 0

-- the number of a section's stubs, and if there are some, in a line also the size of one
abbrev pub stub_fields : Section64 → List FieldView
stub_fields s =
    let column = column_if (not (stubs_in s == 0)) 8 in
    object_field (codes "stubs") (number (stubs_in s))
    ∷ line_field (number (stubs_in s)) column
    ∷ line_field (text (codes "of")) column
    ∷ line_field (number s.reserved2) column
    ∷ line_field (text (codes "bytes")) column
    ∷ []

abbrev pub section_part_fields : SectionRow → List FieldView
section_part_fields row = section_members row ++ stub_fields row.section.section

-- ---- UUIDs, run paths and the entry point

-- the name of a cpu, if it has one
abbrev pub cpu_of : (cputype cpusubtype : ℕ) → Option (List ℕ)
cpu_of cputype cpusubtype = cpu_named arch_rows cputype (kind_of_cpu cpusubtype)

-- as `dwarfdump --uuid` prints it, but for its parentheses
abbrev pub uuid_part_fields : UuidRow → List FieldView
uuid_part_fields row =
    field_of (codes "uuid") (uuid row.uuid) 2
    ∷ field_of (codes "cpu") (optional_text (cpu_of row.cputype row.cpusubtype)) 3
    ∷ object_field (codes "cputype") (number row.cputype)
    ∷ object_field (codes "cpusubtype") (number row.cpusubtype)
    ∷ line_field (text (codes "UUID:")) 1
    ∷ []

abbrev pub rpath_part_fields : ℕ × List ℕ → List FieldView
rpath_part_fields found = wide_field 3 (field_of (codes "number") (number found.0) 1) ∷ field_of (codes "path") (text found.1) 2 ∷ []

-- the names of a section's segment and of the section
abbrev pub segment_of_found : Option NumberedSection → Option (List ℕ)
segment_of_found None = None
segment_of_found (Some found) = name_in_field found.section.segname

abbrev pub name_of_found : Option NumberedSection → Option (List ℕ)
name_of_found None = None
name_of_found (Some found) = name_in_field found.section.sectname

-- the name of a symbol
abbrev pub entry_symbol_name : Option (List ℕ × ℕ) → Option (List ℕ)
entry_symbol_name symbol = option_map (λ s. s.0) symbol

-- how far an address is above a symbol, if there is one; a line has that only if it is above it
abbrev pub entry_distance_field : Option (List ℕ × ℕ) → FieldView
entry_distance_field None = line_field (text []) 0
entry_distance_field (Some s) = field_of (codes "distance") (hex s.1) (column_if (not (s.1 == 0)) 6)

abbrev pub above_field : Option (List ℕ × ℕ) → FieldView
above_field None = line_field (text []) 0
above_field (Some s) = line_field (text (codes "+")) (column_if (not (s.1 == 0)) 5)

-- the symbol at an address, and how far the address is above it
abbrev pub nearest_symbol_fields : Option (List ℕ × ℕ) → List FieldView
nearest_symbol_fields symbol =
    field_of (codes "symbol") (optional_text (entry_symbol_name symbol)) 4 ∷ above_field symbol ∷ entry_distance_field symbol ∷ []

-- the address, the first section that holds it, and the symbol with the distance
abbrev pub entry_part_fields : EntryView → List FieldView
entry_part_fields row =
    field_of (codes "address") (hex row.address) 1
    ∷ field_of (codes "segment") (optional_text (segment_of_found row.section)) 2
    ∷ field_of (codes "section") (optional_text (name_of_found row.section)) 3
    ∷ nearest_symbol_fields row.symbol

-- ---- the header (struct mach_header_64)

-- a flag that a line has if it is set, without its prefix `MH_`
abbrev pub header_flag : (flags flag : ℕ) → FieldView
header_flag flags bit = line_field (optional_text (flag_short_name (flag_name bit))) (column_if (not (bit_and flags bit == 0)) 3)

abbrev pub header_flags : (flags : ℕ) → List FieldView
header_flags flags = map (λ x. header_flag flags x.number) flag_names

-- The cpu, the kind of the file and the flags that are set; and all fields, the subtype of the cpu without its capabilities.
abbrev pub header_members : Header → List FieldView
header_members h =
    object_field (codes "magic") (hex h.magic)
    ∷ field_of (codes "cpu") (optional_text (cpu_of h.cputype h.cpusubtype)) 1
    ∷ object_field (codes "cputype") (hex h.cputype)
    ∷ object_field (codes "cpusubtype") (number (kind_of_cpu h.cpusubtype))
    ∷ object_field (codes "capabilities") (hex (caps_of_cpu h.cpusubtype))
    ∷ field_of (codes "filetype") (named h.filetype (if_known (codes "image") (image_kind h.filetype))) 2
    ∷ alone_field (codes "image_kind") (text (image_kind h.filetype))
    ∷ object_field (codes "commands") (number h.ncmds)
    ∷ object_field (codes "size_of_commands") (number h.sizeofcmds)
    ∷ object_field (codes "flags") (hex h.flags)
    ∷ object_field (codes "reserved") (number h.reserved)
    ∷ []

abbrev pub header_part_fields : Header → List FieldView
header_part_fields h = header_members h ++ header_flags h.flags

-- ---- rows

-- segments, the first of which has this number
abbrev pub segment_rows_from : ℕ → List SegmentView → List (Result (List FieldView) Fault)
segment_rows_from n segments = map (λ found. Ok (segment_part_fields found)) (enumerate_from n segments)

-- run paths, the first of which has this number
abbrev pub rpath_rows_from : ℕ → List (List ℕ) → List (Result (List FieldView) Fault)
rpath_rows_from n paths = map (λ found. Ok (rpath_part_fields found)) (enumerate_from n paths)

-- the row of an item, if there is one
abbrev pub one_row : {X : Type 0} → (X → List FieldView) → Option X → List (Result (List FieldView) Fault)
one_row fields None = []
one_row fields (Some item) = Ok (fields item) ∷ []

-- ---- what the code's values mean

abbrev pub segments_numbered_left : NumberedSegments → List (Result (List FieldView) Fault)
segments_numbered_left it = segment_rows_from it.number (map segment_view (drop it.number it.segments.now))

abbrev pub paths_numbered_left : NumberedPaths → List (Result (List FieldView) Fault)
paths_numbered_left it = rpath_rows_from it.number (texts (drop it.number it.paths.now))
