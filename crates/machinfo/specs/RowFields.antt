-- What the rows of lists show, field by field: as lines, and as objects of JSON.
use Rattle.std.specs.Prelude.{◌||◌, ◌++◌, ℕ, List, [], ◌∷◌, codes, length, map, Bool, true, false, not, Some, Result, Ok, if◌then◌else◌}
use Rattle.mach_base.specs.Answer.{◌>>=◌}
use Rattle.mach_base.specs.Fault.{Fault}
use Rattle.mach_records.specs.declared.linkedit.DataInCodeEntry.{DataInCodeEntry}
use Rattle.mach_records.specs.declared.versions.BuildToolVersion.{BuildToolVersion}
use Rattle.mach_parts.specs.Bindings.{Binding, Provider, of_library, itself, main_executable, flat, weak_lookup}
use Rattle.mach_parts.specs.Slots.{Slot, SlotOwner, named_slot, local_slot, absolute_slot, local_absolute_slot}
use Rattle.mach_parts.specs.declared.indirect.IndirectSymbol.{IndirectSymbol}
use Rattle.mach_parts.specs.declared.indirect.IndirectSymbol.TheVariants.{Symbol, Local, Absolute, LocalAbsolute}
use Rattle.mach_parts.specs.declared.slots.kind.SlotKind.{SlotKind}
use Rattle.mach_parts.specs.declared.slots.kind.SlotKind.TheVariants.{Pointer, LazyPointer, Stub, LazyLibraryPointer, ThreadLocalPointer}
use Rattle.mach_dyld.specs.Rebases.{Rebase}
use Rattle.mach_dyld.specs.WeakBinds.{WeakBind, strong_name, weakly_bound}
use Rattle.goblin_mach.specs.Libraries.{LibraryView}
use Rattle.goblin_mach.specs.declared.libraries.LibraryAttributes.{LibraryAttributes}
use Rattle.goblin_mach.specs.declared.libraries.LibraryKind.{LibraryKind}
use Rattle.goblin_mach.specs.declared.libraries.LibraryKind.TheVariants.{Lazy}
use Rattle.mach_cli.specs.Fields.{FieldView, number, named, signed, hex, text, version, flag, flags, field_of, line_field}
use Rattle.mach_cli.specs.Fields.{fields_line, fields_pairs, object_field, optional_text}
use Rattle.mach_cli.specs.Fields.{whether}
use Rattle.mach_cli.specs.Signing.{diverse_by, diversity_by, has_auth, key_by, rebase_type}
use Rattle.machinfo.specs.NumberedNotes.{NumberedNoteView}
use Rattle.machinfo.specs.OwnNames.{version_columns}
use Rattle.machinfo.specs.PartFields.{column_if, flag_field}
use Rattle.machinfo.specs.ProvidedSymbols.{ProvidedView}
use Rattle.mach_cli.specs.JsonText.{if_not_empty}
use Rattle.machinfo.specs.Tools.{tool_word}
use Rattle.machinfo.specs.declared.word.Word.{Word}
use Rattle.machinfo.specs.declared.word.Word.TheVariants as words

-- ---- code and commands

abbrev pub start_fields : (address : ℕ) → List FieldView
start_fields address = field_of (codes "address") (hex address) 1 ∷ []

abbrev pub indirect_fields : IndirectSymbol → List FieldView
indirect_fields (Symbol n) = field_of (codes "kind") (text (codes "symbol")) 1 ∷ field_of (codes "symbol") (number n) 2 ∷ []
indirect_fields Local = field_of (codes "kind") (text (codes "local")) 1 ∷ []
indirect_fields Absolute = field_of (codes "kind") (text (codes "absolute")) 1 ∷ []
indirect_fields LocalAbsolute = field_of (codes "kind") (text (codes "local absolute")) 1 ∷ []

-- the offset from the image's first byte, the length and the kind
abbrev pub data_fields : DataInCodeEntry → List FieldView
data_fields e =
    field_of (codes "kind") (number e.kind) 3 ∷ field_of (codes "length") (number e.length) 2 ∷ field_of (codes "offset") (hex e.offset) 1 ∷ []

-- the number of the command, and the text
abbrev pub option_fields : ℕ × List ℕ → List FieldView
option_fields found = field_of (codes "command") (number found.0) 1 ∷ field_of (codes "text") (text found.1) 2 ∷ []

-- the number of the command, the tool and its version
abbrev pub tool_fields : ℕ × BuildToolVersion → List FieldView
tool_fields found =
    field_of (codes "command") (number found.0) 1
    ∷ field_of (codes "tool") (named found.1.tool (tool_word found.1.tool)) 2
    ∷ object_field (codes "version") (number found.1.version)
    ∷ line_field (version found.1.version) 3
    ∷ []

-- the number of the command, the note's owner, the offset of its bytes, and their number
abbrev pub note_fields : NumberedNoteView → List FieldView
note_fields n =
    field_of (codes "command") (number n.number) 1
    ∷ field_of (codes "offset") (hex n.place) 3
    ∷ field_of (codes "owner") (optional_text (if_not_empty (Some n.note.owner))) 2
    ∷ field_of (codes "size") (number (length n.note.data_bytes)) 4
    ∷ []

-- ---- slots

abbrev pub slot_kind_text : SlotKind → List ℕ
slot_kind_text Pointer = codes "pointer"
slot_kind_text LazyPointer = codes "lazy pointer"
slot_kind_text Stub = codes "stub"
slot_kind_text LazyLibraryPointer = codes "lazy library pointer"
slot_kind_text ThreadLocalPointer = codes "thread-local pointer"

-- the symbol of a slot
abbrev pub owner_fields : SlotOwner → List FieldView
owner_fields (named_slot index name) =
    field_of (codes "name") (text name) 3
    ∷ object_field (codes "owner") (text (codes "symbol"))
    ∷ object_field (codes "symbol") (number index)
    ∷ []
owner_fields local_slot = field_of (codes "owner") (text (codes "local")) 3 ∷ []
owner_fields absolute_slot = field_of (codes "owner") (text (codes "absolute")) 3 ∷ []
owner_fields local_absolute_slot = field_of (codes "owner") (text (codes "local absolute")) 3 ∷ []

-- the address, the kind of slot, its length in bytes, and its symbol
abbrev pub slot_fields : Slot → List FieldView
slot_fields s =
    field_of (codes "address") (hex s.address) 1
    ∷ field_of (codes "kind") (text (slot_kind_text s.kind)) 2
    ∷ object_field (codes "length") (number s.len)
    ∷ owner_fields s.symbol

-- ---- symbols and libraries

abbrev pub provider_fields : Provider → List FieldView
provider_fields (of_library ordinal path) =
    field_of (codes "ordinal") (number ordinal) 3
    ∷ object_field (codes "path") (text path)
    ∷ field_of (codes "provider") (text (codes "library")) 2
    ∷ []
provider_fields itself = field_of (codes "provider") (text (codes "itself")) 2 ∷ []
provider_fields main_executable = field_of (codes "provider") (text (codes "main-executable")) 2 ∷ []
provider_fields flat = field_of (codes "provider") (text (codes "flat")) 2 ∷ []
provider_fields weak_lookup = field_of (codes "provider") (text (codes "weak-lookup")) 2 ∷ []

-- the symbol's name, and its provider
abbrev pub provided_fields : ProvidedView → List FieldView
provided_fields p = field_of (codes "name") (text p.name) 1 ∷ provider_fields p.provider

-- a library that is loaded at its first use (LC_LAZY_LOAD_DYLIB)
abbrev pub is_lazy_kind : LibraryKind → Bool
is_lazy_kind Lazy = true
is_lazy_kind _ = false

-- no attribute is set
abbrev pub is_plain : LibraryAttributes → (is_lazy : Bool) → Bool
is_plain a is_lazy = not (a.is_weak || a.is_reexport || a.is_upward || a.is_delayed || is_lazy)

-- the name, and the attributes that are set, or `-`; an object also has the versions and the place in the image's list
abbrev pub library_fields : LibraryView → List FieldView
library_fields l =
    object_field (codes "compatibility_version") (number l.compatibility_version)
    ∷ object_field (codes "current_version") (number l.current_version)
    ∷ flag_field (codes "is_delayed") l.attributes.is_delayed (codes "delayed") 7
    ∷ flag_field (codes "is_lazy") (is_lazy_kind l.kind) (codes "lazy") 8
    ∷ flag_field (codes "is_reexport") l.attributes.is_reexport (codes "reexport") 5
    ∷ flag_field (codes "is_upward") l.attributes.is_upward (codes "upward") 6
    ∷ flag_field (codes "is_weak") l.attributes.is_weak (codes "weak") 4
    ∷ field_of (codes "name") (text l.name) 1
    ∷ object_field (codes "ordinal") (number l.ordinal)
    ∷ line_field (text (codes "-")) (column_if (is_plain l.attributes (is_lazy_kind l.kind)) 9)
    ∷ []

-- the same with the versions, as a line of the list has them
abbrev pub library_row_fields : LibraryView → List FieldView
library_row_fields l = library_fields l ++ version_columns l.current_version l.compatibility_version

-- ---- rebases and weak binds

-- the address, the type of the rebase, the target, and how the pointer is signed; a line has that only if it is signed
abbrev pub rebase_row_fields : Rebase → List FieldView
rebase_row_fields r =
    field_of (codes "address") (hex r.address) 1
    ∷ object_field (codes "diversity") (number (diversity_by r.auth))
    ∷ whether (codes "is_address_diverse") (diverse_by r.auth)
    ∷ whether (codes "is_signed") (has_auth r.auth)
    ∷ object_field (codes "key") (number (key_by r.auth))
    ∷ field_of (codes "target") (hex r.target) 3
    ∷ field_of (codes "type") (text (rebase_type r.kind)) 2
    ∷ line_field (flags false false r.auth) (column_if (has_auth r.auth) 4)
    ∷ []

-- the address, the addend, whether the symbol may be missing, and its name
abbrev pub binding_fields : Binding → List FieldView
binding_fields b =
    field_of (codes "addend") (signed b.addend) 2
    ∷ field_of (codes "address") (hex b.address) 1
    ∷ flag_field (codes "is_strong") false (codes "strong") 1
    ∷ field_of (codes "is_weak") (flag b.is_weak (codes "weak") (codes "-")) 3
    ∷ field_of (codes "name") (text b.name) 4
    ∷ []

-- a strong definition of the image's own
abbrev pub strong_row_fields : (name : List ℕ) → List FieldView
strong_row_fields name = flag_field (codes "is_strong") true (codes "strong") 1 ∷ field_of (codes "name") (text name) 2 ∷ []

abbrev pub weak_row_fields : WeakBind → List FieldView
weak_row_fields (strong_name name) = strong_row_fields name
weak_row_fields (weakly_bound b) = binding_fields b

-- ---- rows

-- the fields of items; a fault stays in its place
abbrev pub fields_read : {X : Type 0} → (X → List FieldView) → List (Result X Fault) → List (Result (List FieldView) Fault)
fields_read fields items = map (λ item. item >>= (λ x. Ok (fields x))) items

-- the lines of commands and of the header have the names of fields
abbrev pub has_names : Word → Bool
has_names words.Commands = true
has_names words.CommandsAlone = true
has_names words.Header = true
has_names _ = false

-- the form of the lines of a word's list
abbrev pub lines_form : Word → List FieldView → List ℕ
lines_form word = if has_names word then fields_pairs else fields_line
