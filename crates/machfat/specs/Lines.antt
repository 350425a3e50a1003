-- The text of a fat file's records, or of an image: lines, or an object.
use Rattle.std.specs.Prelude.{◌≡◌, ◌==◌, ℕ, ◌+◌, ◌*◌, ◌/◌, ◌%◌, ◌^◌, List, [], ◌∷◌, ◌++◌, codes, length, take, nat_lt, Bool, Option, Some, None, Ok, unwrap_or}
use Rattle.std.specs.Prelude.{if◌then◌else◌}
use Rattle.std.specs.Fmt.{decimal}
use Rattle.std.specs.Io.KnownBytes.{Appends}
use Rattle.mach_fat_writer.specs.EntriesRead.{slice_of}
use Rattle.mach_fat_writer.specs.declared.entry_record.EntryRecord.{EntryRecord}
use Rattle.mach_parts.specs.Cpu.{kind_of_cpu}
use Rattle.mach_records.specs.CpuNames.{arch_rows, cpu_named}
use Rattle.mach_cli.specs.Fields.{FieldView, field_of, fields_line, fields_object, hex, line_field, number, object_field, optional_text, text}
use Rattle.mach_cli.specs.Fields.{value_in_object, wide_field}
use Rattle.mach_cli.specs.JsonArrays.{comma_before}
use Rattle.mach_cli.specs.Escapes.{escaped_text}
use Rattle.mach_cli.specs.JsonText.{json_bool, json_string}
use Rattle.mach_cli.specs.Listings.{cut_line, hex_text}
use Rattle.mach_cli.specs.Kinds.{entry_kind}
use Rattle.machfat.specs.ImageKinds.{image_words}
use Rattle.machfat.specs.ListedFiles.{ListedFile, a_fat_file, one_image, listed_file_in, has_at_most}
use Rattle.machfat.specs.declared.entry.ListForm.{ListForm}
use Rattle.machfat.specs.declared.entry.ListForm.TheVariants.{Lines, Objects}

-- the bytes of a record's entry; an entry outside the file has none
abbrev pub bytes_of_entry : List ℕ → EntryRecord → List ℕ
bytes_of_entry bytes r = unwrap_or (slice_of bytes r) []

-- the name of the cpu with these numbers, if it has one, whatever its capabilities
unfoldable pub cpu_of_numbers : (cputype cpusubtype : ℕ) → Option (List ℕ)
cpu_of_numbers cputype cpusubtype = cpu_named arch_rows cputype (kind_of_cpu cpusubtype)

-- a cpu by its name, or by its numbers if it has none
abbrev pub name_or_numbers : Option (List ℕ) → (cputype cpusubtype : ℕ) → List ℕ
name_or_numbers (Some name) cputype cpusubtype = escaped_text name
name_or_numbers None cputype cpusubtype = codes "cputype " ++ (hex_text cputype ++ (codes ", cpusubtype " ++ hex_text cpusubtype))

abbrev pub cpu_text : (cputype cpusubtype : ℕ) → List ℕ
cpu_text cputype cpusubtype = name_or_numbers (cpu_of_numbers cputype cpusubtype) cputype cpusubtype

-- a size in units of so many bytes, in brackets: whole units, and tenths of a unit, rounded down
abbrev pub in_units : (unit : ℕ) → (name : List ℕ) → (size : ℕ) → List ℕ
in_units unit name size = codes " (" ++ decimal (size / unit) ++ codes "." ++ decimal (size % unit * 10 / unit) ++ codes " " ++ name ++ codes ")"

-- a size in the largest unit that it reaches, if it reaches one
unfoldable pub reached_units : ℕ → List ℕ
reached_units size =
    if nat_lt size (2 ^ 10) then []
    else (if nat_lt size (2 ^ 20) then in_units (2 ^ 10) (codes "KiB") size
    else (if nat_lt size (2 ^ 30) then in_units (2 ^ 20) (codes "MiB") size
    else in_units (2 ^ 30) (codes "GiB") size))

-- the end of a line, after a size in bytes: the size in units, and the alignment
abbrev pub line_end : (size align : ℕ) → List ℕ
line_end size align = reached_units size ++ (codes ", align 2^" ++ decimal align)

-- the fields of an alignment and a cpu; a line has the name of the cpu, or its numbers if it has none
abbrev pub cpu_fields : Option (List ℕ) → EntryRecord → List FieldView
cpu_fields (Some name) r =
    object_field (codes "align") (number r.align)
    ∷ wide_field 8 (field_of (codes "cpu") (text name) 1)
    ∷ object_field (codes "cpusubtype") (number r.cpusubtype)
    ∷ object_field (codes "cputype") (number r.cputype)
    ∷ []
cpu_fields None r =
    object_field (codes "align") (number r.align)
    ∷ object_field (codes "cpu") (optional_text None)
    ∷ line_field (text (codes "cpusubtype")) 3
    ∷ field_of (codes "cpusubtype") (hex r.cpusubtype) 3
    ∷ line_field (text (codes "cputype")) 1
    ∷ field_of (codes "cputype") (hex r.cputype) 2
    ∷ []

-- what an entry is, in a line: of an image its kind
abbrev pub words_or_kind : Option (List ℕ) → (kind : List ℕ) → List ℕ
words_or_kind (Some words) kind = words
words_or_kind None kind = kind

-- the fields of an entry and of its place
abbrev pub place_fields : (entry : List ℕ) → EntryRecord → List FieldView
place_fields entry r =
    wide_field 15 (line_field (text (words_or_kind (image_words entry) (entry_kind entry))) 4)
    ∷ object_field (codes "image_kind") (optional_text (image_words entry))
    ∷ object_field (codes "kind") (text (entry_kind entry))
    ∷ line_field (text (codes "offset")) 5
    ∷ wide_field 10 (field_of (codes "offset") (hex r.offset) 5)
    ∷ line_field (text (codes "size")) 6
    ∷ wide_field 9 (field_of (codes "size") (number r.size) 6)
    ∷ []

-- the fields of a record
unfoldable pub record_fields : List ℕ → EntryRecord → List FieldView
record_fields bytes r = cpu_fields (cpu_of_numbers r.cputype r.cpusubtype) r ++ place_fields (bytes_of_entry bytes r) r

-- the line of a record with its number
abbrev pub record_line : List ℕ → ℕ → EntryRecord → List ℕ
record_line bytes i r = codes "arch " ++ (decimal i ++ (codes ": " ++ (fields_line (record_fields bytes r) ++ (line_end r.size r.align ++ codes "\n"))))

-- its object, after a comma unless it is the first
abbrev pub next_object : List ℕ → ℕ → EntryRecord → List ℕ
next_object bytes i r = comma_before (i == 0) ++ fields_object (record_fields bytes r)

-- the text of a record in a form
abbrev pub record_as : ListForm → List ℕ → ℕ → EntryRecord → List ℕ
record_as Lines bytes i r = record_line bytes i r
record_as Objects bytes i r = next_object bytes i r

-- the text of records, numbered from i on
abbrev pub records_from : ListForm → List ℕ → ℕ → List EntryRecord → List ℕ
records_from form bytes i [] = []
records_from form bytes i (r ∷ records) = record_as form bytes i r ++ records_from form bytes (i + 1) records

-- the lines of the first records, no more than a limit, and a line if there are more
abbrev pub records_text : (limit : ℕ) (bytes : List ℕ) → List EntryRecord → List ℕ
records_text limit bytes records = records_from Lines bytes 0 (take limit records) ++ cut_line limit (nat_lt limit (length records))

-- the line that a file is one image, with its cpu
abbrev pub image_line : (file : List ℕ) (cputype cpusubtype : ℕ) → List ℕ
image_line file cputype cpusubtype = escaped_text file ++ (codes ": not a fat file; one image for " ++ (cpu_text cputype cpusubtype ++ codes "\n"))

abbrev pub list_text : (limit : ℕ) (file bytes : List ℕ) → ListedFile → List ℕ
list_text limit file bytes (a_fat_file records) = records_text limit bytes records
list_text limit file bytes (one_image cputype cpusubtype) = image_line file cputype cpusubtype

-- the object of a fat file, with the objects of the first records, no more than a limit, and whether there are more
abbrev pub document_tail : (more : Bool) (file : List ℕ) → List ℕ
document_tail more file =
    codes "],\"kind\":\"fat file\",\"limit_met\":" ++ (json_bool more ++ (codes ",\"name\":" ++ (json_string file ++ codes "}\n")))

abbrev pub records_document : (limit : ℕ) (file bytes : List ℕ) → List EntryRecord → List ℕ
records_document limit file bytes records =
    codes "{\"entries\":[" ++ (records_from Objects bytes 0 (take limit records) ++ document_tail (nat_lt limit (length records)) file)

-- the object of an image
abbrev pub image_document : (file : List ℕ) (cputype cpusubtype : ℕ) → List ℕ
image_document file cputype cpusubtype =
    codes "{\"cpu\":" ++ (value_in_object (optional_text (cpu_of_numbers cputype cpusubtype))
    ++ (codes ",\"cpusubtype\":" ++ (decimal cpusubtype ++ (codes ",\"cputype\":" ++ (decimal cputype
    ++ (codes ",\"entries\":[],\"kind\":\"image\",\"limit_met\":false,\"name\":" ++ (json_string file ++ codes "}\n")))))))

abbrev pub document_text : (limit : ℕ) (file bytes : List ℕ) → ListedFile → List ℕ
document_text limit file bytes (a_fat_file records) = records_document limit file bytes records
document_text limit file bytes (one_image cputype cpusubtype) = image_document file cputype cpusubtype

-- A text of what is shown of a file was written; it is whole if there are no more records than a limit.
pub record ReportsFile (text : ListedFile → List ℕ) (limit : ℕ) (bytes : List ℕ) (whole : Bool) (old new : Option (List ℕ)) : Type 0 where
  pub file : ListedFile
  pub is_file : listed_file_in bytes ≡ Ok file
  pub is_whole : whole ≡ has_at_most limit file
  pub written : Appends old new (text file)

-- These lines, or this object, were written.
abbrev pub ReportsList : (limit : ℕ) (file bytes : List ℕ) (whole : Bool) (old new : Option (List ℕ)) → Type 0
ReportsList limit file bytes whole old new = ReportsFile (list_text limit file bytes) limit bytes whole old new

abbrev pub ReportsDocument : (limit : ℕ) (file bytes : List ℕ) (whole : Bool) (old new : Option (List ℕ)) → Type 0
ReportsDocument limit file bytes whole old new = ReportsFile (document_text limit file bytes) limit bytes whole old new

-- the object of a refused file; its words consist of fixed texts and numbers, so nothing is escaped
abbrev pub refusal_document : (file words : List ℕ) → List ℕ
refusal_document file words = codes "{\"entries\":[],\"error\":\"" ++ (words ++ (codes "\",\"name\":" ++ (json_string file ++ codes "}\n")))
