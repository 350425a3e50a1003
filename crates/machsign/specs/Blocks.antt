-- The lines of a code directory.
use Rattle.std.specs.Prelude.{◌+◌, ◌-◌, ◌^◌, ℕ, List, [], ◌∷◌, ◌++◌, codes, length, min, flat_map, nat_le, Bool, true, false, Option, Some, None}
use Rattle.std.specs.Prelude.{Result, Ok, Err, if◌then◌else◌}
use Rattle.std.specs.Fmt.{decimal}
use Rattle.std.specs.List.{list_all}
use Rattle.mach_base.specs.Fault.{Fault}
use Rattle.mach_signature.specs.AsSigned.{SignedImage}
use Rattle.mach_signature.specs.Chosen.{SlotDirectory}
use Rattle.mach_signature.specs.CodeFaults.{code_faults_of}
use Rattle.mach_signature.specs.Directories.{Directory, code_limit_of, page_count_of, identifier_of, team_of, cdhash_of, full_cdhash_of}
use Rattle.mach_signature.specs.Hashes.{hash_len}
use Rattle.mach_signature.specs.SignWords.{hexadecimal, slot_words}
use Rattle.mach_signature.specs.SpecialFaults.{special_faults_of}
use Rattle.mach_signature.specs.declared.fault.CodeFault.{CodeFault}
use Rattle.mach_signature.specs.declared.fault.CodeFault.TheVariants.{Scattered, Limit, Slots, Page}
use Rattle.mach_signature.specs.declared.fault.SpecialFault.{SpecialFault}
use Rattle.mach_signature.specs.declared.hash.HashType.{HashType}
use Rattle.mach_signature.specs.declared.records.DirectoryHead.{DirectoryHead}
use Rattle.mach_signature.specs.declared.records.ExecutableSegment.{ExecutableSegment}
use Rattle.mach_signature.specs.declared.records.RuntimeFields.{RuntimeFields}
use Rattle.mach_records.specs.FlagNames.{code_flags, executable_flags}
use Rattle.mach_cli.specs.Flags.{worded_flags_text}
use Rattle.mach_cli.specs.SignatureNames.{bytes_text, name_text}
use Rattle.machsign.specs.Special.{slot_reported, slots_in}
use Rattle.machsign.specs.Texts.{hash_name, pages_text, runtime_text}
use Rattle.machsign.specs.declared.form.Form.TheVariants.{Lines}

-- the text before its flags: the name of its slot, and its version
abbrev pub head_front : (slot version : ℕ) → List ℕ
head_front slot version = slot_words slot ++ (codes ": version 0x" ++ (hexadecimal version ++ codes ", flags "))

-- the text after its flags
abbrev pub shape_text : HashType → DirectoryHead → (limit : ℕ) → List ℕ
shape_text hash head limit =
    codes ", " ++ (hash_name hash ++ (codes ", " ++ (decimal head.n_special_slots ++ (codes " special slots, " ++ (decimal head.n_code_slots
    ++ (codes " code slots, " ++ (pages_text head.page_size ++ (codes ", limit 0x" ++ (hexadecimal limit
    ++ (codes ", platform " ++ decimal head.platform))))))))))

-- its first line
abbrev pub head_line : (slot : ℕ) → Directory → List ℕ
head_line slot d =
    head_front slot d.head.version ++ (worded_flags_text code_flags d.head.flags ++ (shape_text d.hash d.head (code_limit_of d) ++ codes "\n"))

-- the line of a name
abbrev pub name_line : (label : List ℕ) → Result (Option (List ℕ)) Fault → List ℕ
name_line label name = codes "  " ++ (label ++ (codes ": " ++ (name_text name ++ codes "\n")))

-- the addresses of an executable segment
abbrev pub segment_front : (base end : ℕ) → List ℕ
segment_front base end = codes "  executable: 0x" ++ (hexadecimal base ++ (codes "..0x" ++ (hexadecimal end ++ codes ", flags ")))

-- the end of the segment, or the highest number of 64 bits if that is less
abbrev pub segment_end : ExecutableSegment → ℕ
segment_end s = min (s.base + s.limit) (2 ^ 64 - 1)

-- the line of an executable segment
abbrev pub segment_line : ExecutableSegment → List ℕ
segment_line s = segment_front s.base (segment_end s) ++ (worded_flags_text executable_flags s.flags ++ codes "\n")

-- the line of the executable segment, if the version has it
abbrev pub executable_line : Option ExecutableSegment → List ℕ
executable_line None = []
executable_line (Some s) = segment_line s

-- the line of the runtime, if the version has it
abbrev pub runtime_line : Option RuntimeFields → List ℕ
runtime_line None = []
runtime_line (Some r) = codes "  runtime: " ++ (runtime_text r.version ++ codes "\n")

abbrev pub cdhash_line : List ℕ → List ℕ
cdhash_line cdhash = codes "  cdhash: " ++ (bytes_text cdhash ++ codes "\n")

-- the line of the whole hash, if it has more bytes than the cdhash
abbrev pub full_cdhash_line : Directory → List ℕ
full_cdhash_line d = if nat_le (hash_len d.hash) 20 then [] else codes "  full cdhash: " ++ (bytes_text (full_cdhash_of d) ++ codes "\n")

-- whether a fault is one of a page, and no reason why the pages can't be judged
abbrev pub is_of_page : CodeFault → Bool
is_of_page (Page k start end) = true
is_of_page (Scattered place) = false
is_of_page (Limit limit len) = false
is_of_page (Slots slots pages) = false

-- how many pages are as signed: those without a fault, and none if the pages can't be judged
abbrev pub sound_pages : (pages : ℕ) → List CodeFault → ℕ
sound_pages pages faults = if list_all is_of_page faults then pages - length faults else 0

abbrev pub slots_words : List SpecialFault → List ℕ
slots_words [] = codes "without a fault"
slots_words (fault ∷ faults) = codes "with faults"

-- what was checked: how many pages of how many are as signed, and whether special slots have faults
abbrev pub checked_text : (sound pages : ℕ) → (slots : List ℕ) → List ℕ
checked_text sound pages slots =
    codes "  checked: " ++ (decimal sound ++ (codes " of " ++ (decimal pages ++ (codes " pages as signed, special slots " ++ (slots ++ codes "\n")))))

abbrev pub checked_line : SignedImage → Directory → List ℕ
checked_line x d =
    checked_text (sound_pages (page_count_of d) (code_faults_of d x.bytes)) (page_count_of d) (slots_words (special_faults_of d x.signature x.plist))

-- the lines of the special slots
abbrev pub special_lines : SignedImage → Directory → List ℕ
special_lines x d = flat_map (λ s. slot_reported Lines s ++ codes "\n") (slots_in Lines x d)

-- ---- the whole directory

-- its first line, its names and its executable segment
abbrev pub naming_lines : (slot : ℕ) → Directory → List ℕ
naming_lines slot d =
    head_line slot d ++ (name_line (codes "identifier") (identifier_of d) ++ (name_line (codes "team") (team_of d) ++ executable_line d.executable))

-- its runtime and its hashes
abbrev pub hashing_lines : SignedImage → Directory → List ℕ
hashing_lines x d = (runtime_line d.runtime ++ (cdhash_line (cdhash_of d) ++ full_cdhash_line d)) ++ (special_lines x d ++ checked_line x d)

unfoldable pub directory_lines : SignedImage → (slot : ℕ) → Directory → List ℕ
directory_lines x slot d = naming_lines slot d ++ hashing_lines x d

-- the lines of a directory that can be read
abbrev pub slot_directory_lines : SignedImage → SlotDirectory → List ℕ
slot_directory_lines x (slot, Ok d) = directory_lines x slot d
slot_directory_lines x (slot, Err f) = []
