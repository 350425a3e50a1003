-- Which archive some bytes are, and its members and symbols as lists.
use Rattle.std.specs.Prelude.{ℕ, List, [], ◌∷◌, ◌++◌, nat_eq, codes, Option, Some, None, Result, Ok, Err, if◌then◌else◌}
use Rattle.std.specs.List.{starts_with}
use Rattle.mach_base.specs.Among.{IsAmong}
use Rattle.mach_base.specs.Answer.{◌>>=◌}
use Rattle.mach_base.specs.Fault.{Fault}
use Rattle.mach_archive.specs.ArchiveViews.{archive_symbols_left}
use Rattle.mach_archive.specs.Archives.{ArchiveView, archive_in, archive_kind}
use Rattle.mach_archive.specs.IndexSymbols.{IndexSymbol, table_symbols}
use Rattle.mach_archive.specs.IndexTables.{IndexTable, archive_table}
use Rattle.mach_archive.specs.MemberNames.{NameIsThere}
use Rattle.mach_archive.specs.Members.{MemberView}
use Rattle.mach_archive.specs.Places.{IsTextAt}
use Rattle.mach_archive.specs.declared.archive.ArchiveKind.{ArchiveKind}
use Rattle.mach_archive.specs.declared.archive.ArchiveKind.TheVariants as kinds
use Rattle.mach_archive.specs.declared.symbols.ArchiveSymbols.{ArchiveSymbols}
use Rattle.goblin_mach.specs.Items.{members_within}
use Rattle.goblin_mach_c.specs.declared.archive.ArchiveForm.{ArchiveForm}
use Rattle.goblin_mach_c.specs.declared.archive.ArchiveForm.TheVariants.{Bsd, Gnu, NoArchive, Thin}

abbrev pub form_of_kind : ArchiveKind → ArchiveForm
form_of_kind kinds.Gnu = Gnu
form_of_kind kinds.Bsd = Bsd

-- which archive some bytes are, or why the start of what begins as one can't be read
abbrev pub archive_form : List ℕ → Result ArchiveForm Fault
archive_form bytes =
    if starts_with nat_eq bytes (codes "!<thin>" ++ 0x0a ∷ []) then Ok Thin
    else (if starts_with nat_eq bytes (codes "!<arch>" ++ 0x0a ∷ []) then archive_in bytes >>= (λ a. Ok (form_of_kind (archive_kind a.names)))
    else Ok NoArchive)

-- the items of a list, or the one fault because of which there is none
abbrev pub items_or_fault : {A : Type 0} → Result (List (Result A Fault)) Fault → List (Result A Fault)
items_or_fault (Ok items) = items
items_or_fault (Err f) = Err f ∷ []

-- the members of the archive in some bytes, or why they are no archive
abbrev pub members_in : List ℕ → Result (List (Result MemberView Fault)) Fault
members_in bytes = archive_in bytes >>= (λ a. Ok (members_within a))

abbrev pub archive_members : List ℕ → List (Result MemberView Fault)
archive_members bytes = items_or_fault (members_in bytes)

-- the symbols of a table, if there is one
abbrev pub symbols_of_table : Option IndexTable → List (Result IndexSymbol Fault)
symbols_of_table None = []
symbols_of_table (Some t) = table_symbols t

abbrev pub index_symbols_left : Option ArchiveSymbols → List (Result IndexSymbol Fault)
index_symbols_left None = []
index_symbols_left (Some it) = archive_symbols_left it

-- the symbols of an archive's index, or why it can't be read
abbrev pub symbols_of_view : ArchiveView → Result (List (Result IndexSymbol Fault)) Fault
symbols_of_view a = archive_table a >>= (λ t. Ok (symbols_of_table t))

-- the symbols of its index, in the order of the table, up to the first fault, and then this
abbrev pub index_symbols_in : List ℕ → Result (List (Result IndexSymbol Fault)) Fault
index_symbols_in bytes = archive_in bytes >>= symbols_of_view

abbrev pub archive_symbols : List ℕ → List (Result IndexSymbol Fault)
archive_symbols bytes = items_or_fault (index_symbols_in bytes)

-- the names of these members that can be read are in the bytes, at their places; and those of these symbols
abbrev pub AreNamesThere : List ℕ → List (Result MemberView Fault) → Type 0
AreNamesThere bytes items = (m : MemberView) → IsAmong (Ok m) items → NameIsThere bytes m

abbrev pub AreSymbolNamesThere : List ℕ → List (Result IndexSymbol Fault) → Type 0
AreSymbolNamesThere bytes items = (s : IndexSymbol) → IsAmong (Ok s) items → IsTextAt s.name bytes s.place
