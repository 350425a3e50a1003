-- The lines and the objects of a signature's requirements, by their types.
use Rattle.std.specs.Prelude.{ℕ, List, [], ◌++◌, codes, Option, Some, None, Result, Ok, Err}
use Rattle.mach_base.specs.Fault.{Fault}
use Rattle.mach_cli.specs.SignatureNames.{bytes_text}
use Rattle.mach_signature.specs.Requirements.{Expression, simple_expression}
use Rattle.mach_signature.specs.RequirementTexts.{expression_text, requirement_words}
use Rattle.mach_signature.specs.RequirementTypes.{requirement_of, requirements_of}
use Rattle.mach_signature.specs.SuperBlob.{SuperBlob}
use Rattle.mach_signature.specs.declared.requirements.term.Operator.TheVariants.{Or}
use Rattle.mach_signature.specs.declared.requirements.text.Quotes.TheVariants.{Escaped}

-- ---- lines

abbrev pub found_line : (name bytes : List ℕ) → List ℕ
found_line name bytes = (codes "requirement " ++ (name ++ codes ": ")) ++ (requirement_words bytes ++ codes "\n")

abbrev pub type_line_by : (name : List ℕ) → Result (Option (List ℕ)) Fault → List ℕ
type_line_by name (Ok None) = []
type_line_by name (Ok (Some bytes)) = found_line name bytes
type_line_by name (Err f) = codes "requirement " ++ (name ++ codes ": unreadable\n")

-- the line of the first requirement of a type, if there is one
abbrev pub type_line : SuperBlob → (name : List ℕ) → (kind : ℕ) → List ℕ
type_line index name kind = type_line_by name (requirement_of index kind)

-- the lines of the five types (`SecRequirementType`)
abbrev pub type_lines : SuperBlob → List ℕ
type_lines index =
    type_line index (codes "host") 1 ++ (type_line index (codes "guest") 2 ++ (type_line index (codes "designated") 3
    ++ (type_line index (codes "library") 4 ++ type_line index (codes "plugin") 5)))

abbrev pub requirement_lines_by : Result (Option SuperBlob) Fault → List ℕ
requirement_lines_by (Ok None) = []
requirement_lines_by (Ok (Some index)) = type_lines index
requirement_lines_by (Err f) = codes "requirements: unreadable\n"

abbrev pub requirement_lines : SuperBlob → List ℕ
requirement_lines s = requirement_lines_by (requirements_of s)

-- ---- objects

-- the object of a requirement: its text if it is simple, and else its bytes
abbrev pub requirement_object_by : List ℕ → Result Expression Fault → List ℕ
requirement_object_by bytes (Ok x) = codes "{\"hex\":null,\"text\":\"" ++ (expression_text Escaped (Some Or) x ++ codes "\"}")
requirement_object_by bytes (Err f) = codes "{\"hex\":\"" ++ (bytes_text bytes ++ codes "\",\"text\":null}")

abbrev pub requirement_object : List ℕ → List ℕ
requirement_object bytes = requirement_object_by bytes (simple_expression bytes)

abbrev pub type_object_by : Result (Option (List ℕ)) Fault → List ℕ
type_object_by (Ok None) = codes "null"
type_object_by (Ok (Some bytes)) = requirement_object bytes
type_object_by (Err f) = codes "{\"error\":\"unreadable\"}"

abbrev pub type_object : SuperBlob → (kind : ℕ) → List ℕ
type_object index kind = type_object_by (requirement_of index kind)

-- a member, by what is before its value
abbrev pub type_member : SuperBlob → (before : List ℕ) → (kind : ℕ) → List ℕ
type_member index before kind = before ++ type_object index kind

abbrev pub type_members : SuperBlob → List ℕ
type_members index =
    type_member index (codes "{\"designated\":") 3 ++ (type_member index (codes ",\"guest\":") 2 ++ (type_member index (codes ",\"host\":") 1
    ++ (type_member index (codes ",\"library\":") 4 ++ type_member index (codes ",\"plugin\":") 5)))

abbrev pub requirements_object_by : Result (Option SuperBlob) Fault → List ℕ
requirements_object_by (Ok None) = codes "null"
requirements_object_by (Ok (Some index)) = type_members index ++ codes "}"
requirements_object_by (Err f) = codes "{\"error\":\"unreadable\"}"

abbrev pub requirements_object : SuperBlob → List ℕ
requirements_object s = requirements_object_by (requirements_of s)
