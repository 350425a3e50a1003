-- The words that select a list.
use Rattle.std.specs.Prelude.{◌≡◌, ◌⊎◌, ◌&&◌, ℕ, List, [], ◌∷◌, codes, Bool, true, false, Option, Some, None, option_map, bytes_eq, drop, nat_le, if◌then◌else◌}
use Rattle.std.specs.Borrow.{Bor}
use Rattle.std.specs.List.{list_all}
use Rattle.mach_cli.specs.Calls.{word_address}
use Rattle.mach_cli.specs.declared.misuse.Misuse.{Misuse}
use Rattle.mach_cli.specs.declared.misuse.Misuse.TheVariants.{Missing, NoAddress, NoList, NoName, UnknownWord}
use Rattle.machinfo.specs.SectionBytes.{name_of_16, section_name_of}
use Rattle.machinfo.specs.declared.selection.Selection.{Selection}
use Rattle.machinfo.specs.declared.word.Choice.{Choice}
use Rattle.machinfo.specs.declared.word.Choice.TheVariants as choices
use Rattle.machinfo.specs.declared.word.Word.{Word}
use Rattle.machinfo.specs.declared.word.Word.TheVariants.{Commands, CommandsAlone, Starts, Slots, Indirect, Data}
use Rattle.machinfo.specs.declared.word.Word.TheVariants.{Options, Tools, Notes, Providers, Libraries, Rebases}
use Rattle.machinfo.specs.declared.word.Word.TheVariants.{Id, Weak, Segments, Sections, Uuid, Rpaths, Entry, Header, Security, SecurityExplained}
use Rattle.machinfo.specs.declared.word.Word.TheVariants.{Relocations, Strings, Bytes}

-- how a word is spelled
abbrev pub spelling_of : Word → List ℕ
spelling_of CommandsAlone = codes "commands"
spelling_of Commands = codes "commands"
spelling_of Starts = codes "starts"
spelling_of Slots = codes "slots"
spelling_of Indirect = codes "indirect"
spelling_of Data = codes "data"
spelling_of Options = codes "options"
spelling_of Tools = codes "tools"
spelling_of Notes = codes "notes"
spelling_of Providers = codes "providers"
spelling_of Libraries = codes "libraries"
spelling_of Id = codes "id"
spelling_of Rebases = codes "rebases"
spelling_of Weak = codes "weak"
spelling_of Segments = codes "segments"
spelling_of Sections = codes "sections"
spelling_of Uuid = codes "uuid"
spelling_of Rpaths = codes "rpaths"
spelling_of Entry = codes "entrypoint"
spelling_of Header = codes "header"
spelling_of Security = codes "security"
spelling_of SecurityExplained = codes "security"
spelling_of Relocations = codes "relocations"
spelling_of Strings = codes "strings"
spelling_of (Bytes name) = codes "bytes"

-- the words that a call may have
abbrev pub list_words : List Word
list_words =
    Commands ∷ Starts ∷ Slots ∷ Indirect ∷ Data ∷ Options ∷ Tools ∷ Notes ∷ Providers ∷ Libraries ∷ Id ∷ Rebases ∷ Weak ∷ Segments ∷ Sections
    ∷ Uuid ∷ Rpaths ∷ Entry ∷ Header ∷ Security ∷ Relocations ∷ Strings ∷ []

-- the first word with a spelling
abbrev pub word_among : List Word → List ℕ → Option Word
word_among [] text = None
word_among (w ∷ others) text = if bytes_eq text (spelling_of w) then Some w else word_among others text

abbrev pub word_named : List ℕ → Option Word
word_named text = word_among list_words text

-- what a spelling selects: the exports, the imports, the initializers, or a word's list
unfoldable pub choice_named : List ℕ → Option Choice
choice_named text =
    if bytes_eq text (codes "exports") then Some choices.Exports
    else (if bytes_eq text (codes "imports") then Some choices.Imports
    else (if bytes_eq text (codes "inits") then Some choices.Inits
    else option_map (λ word. choices.Word word) (word_named text)))

-- the word of the list that explains the items of another, if there is one; and the choice of it, if that is asked for
abbrev pub explained_word : Word → Word
explained_word Security = SecurityExplained
explained_word word = word

abbrev pub explained_choice : (is_explained : Bool) → Choice → Choice
explained_choice false choice = choice
explained_choice true (choices.Word word) = choices.Word (explained_word word)
explained_choice true choice = choice

-- ---- the arguments of a call

-- what the first argument selects
abbrev pub choice_selected : List (Bor (List ℕ)) → Option Choice
choice_selected [] = None
choice_selected (first ∷ others) = choice_named first.now

-- the files: all arguments, but for one that selects
abbrev pub files_after : Option Choice → List (Bor (List ℕ)) → List (Bor (List ℕ))
files_after None arguments = arguments
files_after (Some choice) arguments = drop 1 arguments

abbrev pub files_named : List (Bor (List ℕ)) → List (Bor (List ℕ))
files_named arguments = files_after (choice_selected arguments) arguments

-- the word for what images have at an address
abbrev pub is_word_at : List ℕ → Bool
is_word_at text = bytes_eq text (codes "at")

-- what an address selects, which the first of these arguments is; the others are files
abbrev pub selected_after_at : List (Bor (List ℕ)) → Option (Option Choice × List (Bor (List ℕ)))
selected_after_at [] = None
selected_after_at (word ∷ files) = option_map (λ address. (Some (choices.At address), files)) (word_address word.now)

-- the word for the bytes of a section
abbrev pub is_word_bytes : List ℕ → Bool
is_word_bytes text = bytes_eq text (codes "bytes")

-- what two names select, which the first of these arguments are; the others are files
abbrev pub selected_after_bytes : List (Bor (List ℕ)) → Option (Option Choice × List (Bor (List ℕ)))
selected_after_bytes [] = None
selected_after_bytes (segment ∷ []) = None
selected_after_bytes (segment ∷ section ∷ files) =
    option_map (λ name. (Some (choices.Word (Bytes name)), files)) (section_name_of segment.now section.now)

-- what arguments without `--at` select
abbrev pub selected_by_words : List (Bor (List ℕ)) → Option (Option Choice × List (Bor (List ℕ)))
selected_by_words [] = Some (None, [])
selected_by_words (first ∷ others) =
    if is_word_at first.now then selected_after_at others
    else (if is_word_bytes first.now then selected_after_bytes others else Some (choice_named first.now, files_named (first ∷ others)))

-- What a call with this address after `--at` selects, with its files. There is nothing if `at` has no address after it.
abbrev pub selected : (address : Option ℕ) → List (Bor (List ℕ)) → Option (Option Choice × List (Bor (List ℕ)))
selected (Some address) arguments = Some (Some (choices.At address), arguments)
selected None arguments = selected_by_words arguments

-- This is wrong with the arguments after `at`: there are none, or the first is no address.
abbrev pub IsNoAddress : List (Bor (List ℕ)) → Misuse → Type 0
IsNoAddress [] misuse = (what : Bor (List ℕ)) × (what.now ≡ codes "ADDRESS after at") × (misuse ≡ Missing what)
IsNoAddress (word ∷ files) misuse = (misuse ≡ NoAddress word) × (word_address word.now ≡ None)

-- A name is longer than 16 bytes.
abbrev pub IsLongName : Bor (List ℕ) → Misuse → Type 0
IsLongName name misuse = (misuse ≡ NoName name) × (name_of_16 name.now ≡ None)

-- This is wrong with the arguments after `bytes`: there are less than two, or a name is too long.
abbrev pub IsNoSection : List (Bor (List ℕ)) → Misuse → Type 0
IsNoSection (segment ∷ section ∷ files) misuse = IsLongName segment misuse ⊎ IsLongName section misuse
IsNoSection _ misuse = (what : Bor (List ℕ)) × (what.now ≡ codes "SEGMENT SECTION after bytes") × (misuse ≡ Missing what)

-- one of these is wrong
abbrev pub IsNoSelection : List (Bor (List ℕ)) → Misuse → Type 0
IsNoSelection arguments misuse = IsNoAddress arguments misuse ⊎ IsNoSection arguments misuse

-- a small letter (ASCII)
abbrev pub is_small_letter : ℕ → Bool
is_small_letter byte = nat_le 0x61 byte && nat_le byte 0x7a

-- lists that other programs have, each with what prints it
abbrev pub lists_elsewhere : List (List ℕ × List ℕ)
lists_elsewhere =
    (codes "symbols", codes "machsyms prints symbols")
    ∷ (codes "fixups", codes "machfixups prints fixups")
    ∷ (codes "binds", codes "machfixups --binds prints binds")
    ∷ (codes "chains", codes "machfixups --chains prints chains")
    ∷ (codes "signature", codes "machsign prints the signature")
    ∷ (codes "entitlements", codes "machsign --entitlements prints entitlements")
    ∷ (codes "requirements", codes "machsign prints requirements")
    ∷ (codes "faults", codes "machaudit prints faults")
    ∷ (codes "entries", codes "machfat list prints entries")
    ∷ (codes "members", codes "machfat members prints members")
    ∷ []

abbrev pub prints_among : List (List ℕ × List ℕ) → (word : List ℕ) → Option (List ℕ)
prints_among [] word = None
prints_among (row ∷ rows) word = if bytes_eq word row.0 then Some row.1 else prints_among rows word

-- A word is wrong: another program has such a list, or it is unknown.
abbrev pub IsWordWrong : Option (List ℕ) → (word : Bor (List ℕ)) → Misuse → Type 0
IsWordWrong (Some prints) word misuse = (instead : Bor (List ℕ)) × (instead.now ≡ prints) × (misuse ≡ NoList word instead)
IsWordWrong None word misuse = misuse ≡ UnknownWord word

-- This is wrong with a call that selects nothing: the first of its files, which others follow, is a wrong word of small letters alone.
abbrev pub HasWrongWord : Option Choice → List (Bor (List ℕ)) → Misuse → Type 0
HasWrongWord choice [] misuse = ⊥
HasWrongWord choice (first ∷ []) misuse = ⊥
HasWrongWord choice (first ∷ next ∷ others) misuse =
    IsWordWrong (prints_among lists_elsewhere first.now) first misuse × (choice ≡ None) × (list_all is_small_letter first.now ≡ true)

-- ---- what the code's values mean

abbrev pub selection_view : Selection → Option Choice × List (Bor (List ℕ))
selection_view s = (s.choice, s.files.now)
