-- The lines that are printed, and the messages about unused libraries and refused files.
use Rattle.std.specs.Prelude.{◌+◌, ◌==◌, ℕ, Bool, false, List, [], ◌∷◌, ◌++◌, codes, bytes_eq, get_or, if◌then◌else◌}
use Rattle.std.specs.Fmt.{digits, decimal}
use Rattle.mach_base.specs.declared.error.Error.{Error}
use Rattle.mach_parts.specs.Bindings.{Provider, of_library, itself, main_executable, flat, weak_lookup}
use Rattle.mach_cli.specs.Cpus.{cpu_words}
use Rattle.mach_cli.specs.Escapes.{escaped_text}
use Rattle.mach_cli.specs.Fields.{word_if}
use Rattle.mach_cli.specs.declared.cpu.Cpu.{Cpu}
use Rattle.mach_cli.specs.declared.cpu.Cpu.TheVariants.{Number}
use Rattle.mach_resolve.specs.Follow.{SymbolPlace, found, leads_back, no_library, missing, not_given, not_found, no_main}
use Rattle.mach_resolve.specs.Answers.{Answer}
use Rattle.mach_resolve.specs.Given.{GivenFile}
use Rattle.machresolve.specs.Refusals.{reported_words}
use Rattle.mach_resolve.specs.Note.{Note, given_before, nothing_for, all_noted}
use Rattle.machresolve.specs.Report.{Outcome, answered, archive, refused, Report, one, entries, nothing}

abbrev pub provider_text : Provider → List ℕ
provider_text (of_library ordinal name) = escaped_text name
provider_text itself = codes "this-image"
provider_text main_executable = codes "main-executable"
provider_text flat = codes "flat-namespace"
provider_text weak_lookup = codes "weak-lookup"

-- whether the provider is the library with this name
abbrev pub provider_is_library : Provider → List ℕ → Bool
provider_is_library (of_library ordinal name) library = bytes_eq name library
provider_is_library provider library = false

-- whether the provider is the file with this number and this name: that library, or this image, which is file 0
abbrev pub provider_is_file : Provider → ℕ → List ℕ → Bool
provider_is_file (of_library ordinal name) number file = bytes_eq name file
provider_is_file itself number file = number == 0
provider_is_file provider number file = false

-- some words and a library, unless it is the provider, which the line has named
abbrev pub other_text : (is_provider : Bool) → (words library : List ℕ) → List ℕ
other_text is_provider words library = if is_provider then [] else words ++ escaped_text library

-- the library that a sentence is about: `it`, if it is the provider
abbrev pub subject_text : (is_provider : Bool) → (library : List ℕ) → List ℕ
subject_text is_provider library = if is_provider then codes "it" else escaped_text library

-- the place of a name, after its provider: a file is named unless it is the provider
abbrev pub place_text : Provider → SymbolPlace → List ℕ
place_text provider (found number file address is_absolute) =
    word_if is_absolute (codes "absolute ") []
    ++ (codes "0x" ++ (digits 16 false address ++ other_text (provider_is_file provider number file) (codes " in ") file))
place_text provider (leads_back library) = codes "leads back" ++ other_text (provider_is_library provider library) (codes " to ") library
place_text provider (no_library library) = codes "no library" ++ other_text (provider_is_library provider library) (codes " ") library
place_text provider (missing library) = codes "missing" ++ other_text (provider_is_library provider library) (codes " in ") library
place_text provider (not_given library reexported) =
    codes "not found; "
    ++ (subject_text (provider_is_library provider library) library ++ (codes " re-exports " ++ (escaped_text reexported ++ codes ", which is not given")))
place_text provider not_found = codes "not found"
place_text provider no_main = codes "no main executable"

abbrev pub weak_text : Bool → List ℕ
weak_text is_weak = if is_weak then codes "weak, " else []

-- the words before the place, if the name may be missing
abbrev pub text_before_place : SymbolPlace → Bool → List ℕ
text_before_place (found number file address is_absolute) is_weak = []
text_before_place (leads_back library) is_weak = []
text_before_place (no_library library) is_weak = weak_text is_weak
text_before_place (missing library) is_weak = weak_text is_weak
text_before_place (not_given library reexported) is_weak = weak_text is_weak
text_before_place not_found is_weak = weak_text is_weak
text_before_place no_main is_weak = weak_text is_weak

abbrev pub front_text : Answer → List ℕ
front_text a = text_before_place a.place a.is_weak

-- the name, its provider, and its place
abbrev pub answer_text : Answer → List ℕ
answer_text a = escaped_text a.name ++ codes " " ++ provider_text a.provider ++ codes " " ++ front_text a ++ place_text a.provider a.place

-- the line above the answers: what each of their lines has
abbrev pub answers_heading : List ℕ
answers_heading = codes "NAME PROVIDER RESULT\n"

-- a line each, in order
abbrev pub lines_of : List Answer → List ℕ
lines_of [] = []
lines_of (a ∷ others) = answer_text a ++ codes "\n" ++ lines_of others

-- a line if there are more bindings than the limit
abbrev pub more_text : ℕ → Bool → List ℕ
more_text limit more = if more then codes "limit: " ++ (decimal limit ++ codes " shown, and there are more\n") else []

-- the answers of a program below the heading, and a line after them if there are more bindings
abbrev pub resolved_text : ℕ → List Answer → Bool → List ℕ
resolved_text limit answers more = answers_heading ++ (lines_of answers ++ more_text limit more)

-- the arguments of a run: a program and libraries; at most `limit` bindings are answered
pub record ResolveCall : Type 0 where
  pub limit : ℕ
  pub program : GivenFile
  pub libraries : List GivenFile

-- the file with a number: the program, which is file 0, or a library
abbrev pub file_at : ResolveCall → ℕ → GivenFile
file_at call number = get_or (call.program ∷ call.libraries) number call.program

-- the message about a refused file
abbrev pub refusal_text : GivenFile → Error → List ℕ
refusal_text file e = escaped_text file.path ++ (codes ": " ++ reported_words file.bytes e)

abbrev pub nothing_words : Cpu → List ℕ
nothing_words cpu = codes "nothing for " ++ cpu_words cpu

-- the message about a file that has nothing for a cpu
abbrev pub nothing_text : GivenFile → Cpu → List ℕ
nothing_text file cpu = escaped_text file.path ++ (codes ": " ++ nothing_words cpu)

abbrev pub note_text : ResolveCall → Note → List ℕ
note_text call (given_before library name) =
    escaped_text (file_at call library).path ++ (codes ": " ++ (escaped_text name ++ codes " was given before"))
note_text call (nothing_for library cputype) = nothing_text (file_at call library) (Number cputype)

-- a line of a message
abbrev pub message_line : List ℕ → List ℕ
message_line text = codes "machresolve: " ++ text ++ codes "\n"

abbrev pub message_lines : ResolveCall → List Note → List ℕ
message_lines call [] = []
message_lines call (n ∷ notes) = message_line (note_text call n) ++ message_lines call notes

-- the text of an entry
abbrev pub entry_text : ResolveCall → Outcome → List ℕ
entry_text call (answered answers notes more) = resolved_text call.limit answers more
entry_text call archive = codes "archive\n"
entry_text call (refused file e) = codes "refused: " ++ (refusal_text (file_at call file) e ++ codes "\n")

-- the line before entry i
abbrev pub entry_heading : ℕ → List ℕ
entry_heading i = codes "arch " ++ decimal i ++ codes "\n"

-- the text of the entries from number i on, each after its line
abbrev pub entries_text : ResolveCall → ℕ → List Outcome → List ℕ
entries_text call i [] = []
entries_text call i (o ∷ others) = entry_heading i ++ entry_text call o ++ entries_text call (i + 1) others

-- the text of one program; none if it is refused
abbrev pub one_text : ResolveCall → Outcome → List ℕ
one_text call (answered answers notes more) = resolved_text call.limit answers more
one_text call archive = codes "archive\n"
one_text call (refused file e) = []

-- the text of a report
abbrev pub printed : ResolveCall → Report → List ℕ
printed call (one o) = one_text call o
printed call (entries outcomes) = entries_text call 0 outcomes
printed call (nothing cpu) = []

abbrev pub notes_of : Outcome → List Note
notes_of (answered answers notes more) = notes
notes_of archive = []
notes_of (refused file e) = []

-- the notes of all entries, each once
abbrev pub all_notes : List Note → List Outcome → List Note
all_notes notes [] = notes
all_notes notes (o ∷ others) = all_notes (all_noted notes (notes_of o)) others

abbrev pub notes_in : Report → List Note
notes_in (one o) = all_noted [] (notes_of o)
notes_in (entries outcomes) = all_notes [] outcomes
notes_in (nothing cpu) = []

-- the message if one program is refused
abbrev pub refusal_message : ResolveCall → Outcome → List ℕ
refusal_message call (answered answers notes more) = []
refusal_message call archive = []
refusal_message call (refused file e) = message_line (refusal_text (file_at call file) e)

-- the message if nothing is printed
abbrev pub first_message : ResolveCall → Report → List ℕ
first_message call (one o) = refusal_message call o
first_message call (entries outcomes) = []
first_message call (nothing cpu) = message_line (nothing_text call.program cpu)

-- the messages of a report
abbrev pub messages_of_report : ResolveCall → Report → List ℕ
messages_of_report call r = first_message call r ++ message_lines call (notes_in r)
