-- The lines of the symbols of an archive's index (`ranlib.h`).
use Rattle.std.specs.Prelude.{◌≡◌, ℕ, List, [], ◌++◌, codes, map, Bool, true, false, Some, None, Result, Ok, Err}
use Rattle.std.specs.Fmt.{decimal}
use Rattle.mach_base.specs.Fault.{Fault, fault_of}
use Rattle.mach_base.specs.Words.{words_of}
use Rattle.mach_base.specs.declared.error.Error.{Error}
use Rattle.mach_archive.specs.Archives.{ArchiveView, archive_member_at}
use Rattle.mach_archive.specs.IndexSymbols.{AreIndexSymbols, IndexSymbol}
use Rattle.mach_archive.specs.IndexTables.{IndexTable, archive_table}
use Rattle.mach_archive.specs.MemberNames.{text_or_fault}
use Rattle.mach_archive.specs.Members.{MemberView}
use Rattle.mach_cli.specs.declared.listing.ListProgress.{ListProgress}
use Rattle.machfat.specs.Names.{name_tail, refused_line}
use Rattle.machfat.specs.Written.{AreItemLines}

-- What is reported where a symbol may be: its member and its name; or the error of its member; or the error of a name that is no
-- text; or the error for which there is no symbol, nor any after it.
pub data SymbolReported (E : Type 0) : Type 0 where
  a_symbol : (place : ℕ) (name : List ℕ) → SymbolReported E
  of_no_member : (place : ℕ) (name : List ℕ) → E → SymbolReported E
  of_no_name : (place : ℕ) → E → SymbolReported E
  no_more_symbols : E → SymbolReported E

-- the text before a name or an error
abbrev pub symbol_at_text : ℕ → List ℕ
symbol_at_text place = codes "symbol at " ++ decimal place

-- the line of this
abbrev pub symbol_line : SymbolReported Error → List ℕ
symbol_line (a_symbol place name) = (symbol_at_text place ++ codes ": ") ++ name_tail name
symbol_line (of_no_member place name e) = (symbol_at_text place ++ (codes ", refused: " ++ (words_of e ++ codes ": "))) ++ name_tail name
symbol_line (of_no_name place e) = symbol_at_text place ++ (codes ", name refused: " ++ (words_of e ++ codes "\n"))
symbol_line (no_more_symbols e) = refused_line (codes "symbol refused") e

-- the words of its error, if it has one
abbrev pub symbol_reason : SymbolReported Error → List ℕ
symbol_reason (a_symbol place name) = []
symbol_reason (of_no_member place name e) = words_of e
symbol_reason (of_no_name place e) = words_of e
symbol_reason (no_more_symbols e) = words_of e

-- the same, with faults for errors
abbrev pub reported_symbol_faults : SymbolReported Error → SymbolReported Fault
reported_symbol_faults (a_symbol place name) = a_symbol place name
reported_symbol_faults (of_no_member place name e) = of_no_member place name (fault_of e)
reported_symbol_faults (of_no_name place e) = of_no_name place (fault_of e)
reported_symbol_faults (no_more_symbols e) = no_more_symbols (fault_of e)

-- what is reported of a symbol with this name, given its member
abbrev pub item_of_member : (place : ℕ) (name : List ℕ) → Result MemberView Fault → SymbolReported Fault
item_of_member place name (Ok m) = a_symbol place name
item_of_member place name (Err f) = of_no_member place name f

-- what is reported of a symbol, given its name, which may be no text
abbrev pub item_of_name : ArchiveView → (place : ℕ) → Result (List ℕ) Fault → SymbolReported Fault
item_of_name a place (Ok name) = item_of_member place name (archive_member_at a place)
item_of_name a place (Err f) = of_no_name place f

-- what is reported of a symbol as it was read
abbrev pub symbol_item : ArchiveView → Result IndexSymbol Fault → SymbolReported Fault
symbol_item a (Ok s) = item_of_name a s.member (text_or_fault s.name)
symbol_item a (Err f) = no_more_symbols f

-- whether a symbol's name and its member can be read
abbrev pub is_whole_symbol : SymbolReported Fault → Bool
is_whole_symbol (a_symbol place name) = true
is_whole_symbol (of_no_member place name f) = false
is_whole_symbol (of_no_name place f) = false
is_whole_symbol (no_more_symbols f) = false

-- what is known if no line is printed: whether it is whole
abbrev pub unreported : (left : ℕ) → (whole : Bool) → ListProgress
unreported left whole = record { left = left; whole = whole; more = false }

-- The text is a line for each of the first symbols of an archive's index, in order, up to the first fault, and for that fault, no
-- more than `left`; nothing, if the archive has no index; or a line with the error of the index. It is whole if no line has a
-- fault.
pub data AreIndexLines (a : ArchiveView) (left : ℕ) : List ℕ → ListProgress → Type 0 where
  no_index : archive_table a ≡ Ok None → AreIndexLines a left [] (unreported left true)
  no_table : (e : Error) → archive_table a ≡ Err (fault_of e) → AreIndexLines a left (refused_line (codes "symbols refused") e) (unreported left false)
  symbols : (table : IndexTable) (items : List (Result IndexSymbol Fault)) (text : List ℕ) (t : ListProgress) → archive_table a ≡ Ok (Some table)
      → AreIndexSymbols table 0 items → AreItemLines reported_symbol_faults symbol_line is_whole_symbol left (map (symbol_item a) items) text t
      → AreIndexLines a left text t
