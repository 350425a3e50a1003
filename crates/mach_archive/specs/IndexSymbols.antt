-- The symbols of an index.
use Rattle.std.specs.Prelude.{◌≡◌, ℕ, zero, suc, ◌+◌, ◌-◌, ◌*◌, ◌<◌, ◌≤◌, List, [], ◌∷◌, length, drop, Option, Some, None, Result, Ok, Err, nat_lt}
use Rattle.std.specs.Prelude.{if◌then◌else◌}
use Rattle.std.specs.Str.{bytes_eq}
use Rattle.mach_base.specs.Answer.{◌>>=◌}
use Rattle.mach_base.specs.Fault.{Fault, malformed}
use Rattle.mach_base.specs.Number.{number}
use Rattle.mach_base.specs.Text.{run_at}
use Rattle.mach_archive.specs.declared.archive.ArchiveKind.{ArchiveKind}
use Rattle.mach_archive.specs.declared.archive.ArchiveKind.TheVariants.{Gnu, Bsd}
use Rattle.mach_archive.specs.Archives.{ArchiveView, archive_member_at}
use Rattle.mach_archive.specs.IndexTables.{IndexTable}
use Rattle.mach_archive.specs.Members.{MemberView, then_items}
use Rattle.mach_archive.specs.Places.{PlacedText, rest_of_text}

-- a symbol: its name, the place of its name in the archive, and that of a member's header
pub record IndexSymbol : Type 0 where
  pub name : List ℕ
  pub place : ℕ
  pub member : ℕ

-- the text from s on; a zero byte must end it
abbrev pub ended_text : List ℕ → ℕ → Result (List ℕ) Fault
ended_text names s = if nat_lt (s + length (run_at names s)) (length names) then Ok (run_at names s) else Err malformed

-- the place of symbol k's name in GNU's form: after the zero byte of the name before
unfoldable pub gnu_name_place : List ℕ → ℕ → ℕ
gnu_name_place names zero = 0
gnu_name_place names (suc k) = let s = gnu_name_place names k in s + length (run_at names s) + 1

-- number k of the records
abbrev pub record_number : IndexTable → ℕ → ℕ
record_number t k = number t.le t.width (drop (t.width * k) t.records)

-- the place of symbol k's name among the names, and that of its member; in BSD's form a record holds both
abbrev pub symbol_name_place : ArchiveKind → IndexTable → ℕ → ℕ
symbol_name_place Gnu t k = gnu_name_place t.names.text k
symbol_name_place Bsd t k = record_number t (2 * k)

abbrev pub symbol_member : ArchiveKind → IndexTable → ℕ → ℕ
symbol_member Gnu t k = record_number t k
symbol_member Bsd t k = record_number t (2 * k + 1)

-- symbol k, or the fault of its name
abbrev pub index_symbol_by : ArchiveKind → IndexTable → ℕ → Result IndexSymbol Fault
index_symbol_by kind t k =
    ended_text t.names.text (symbol_name_place kind t k)
    >>= (λ name. Ok (record { name = name; place = t.names.place + symbol_name_place kind t k; member = symbol_member kind t k }))

unfoldable pub index_symbol_at : IndexTable → ℕ → Result IndexSymbol Fault
index_symbol_at t k = index_symbol_by t.kind t k

-- these are the symbols of a table from number k on; they end after the first fault
abbrev pub AreIndexSymbols : IndexTable → ℕ → List (Result IndexSymbol Fault) → Type 0
AreIndexSymbols t k [] = t.count ≤ k
AreIndexSymbols t k (Ok s ∷ items) = (k < t.count) × (index_symbol_at t k ≡ Ok s) × AreIndexSymbols t (k + 1) items
AreIndexSymbols t k (Err f ∷ items) = (k < t.count) × (index_symbol_at t k ≡ Err f) × (items ≡ [])

-- the first symbol of a name, or a fault before it
abbrev pub first_named : List ℕ → List (Result IndexSymbol Fault) → Result (Option IndexSymbol) Fault
first_named name [] = Ok None
first_named name (Ok s ∷ items) = if bytes_eq s.name name then Ok (Some s) else first_named name items
first_named name (Err f ∷ items) = Err f

-- the member of a symbol, if one was found
abbrev pub member_of_symbol : ArchiveView → Option IndexSymbol → Result (Option MemberView) Fault
member_of_symbol a None = Ok None
member_of_symbol a (Some s) = archive_member_at a s.member >>= (λ m. Ok (Some m))

-- the member that a search by name returns
abbrev pub found_by_name : ArchiveView → List ℕ → List (Result IndexSymbol Fault) → Result (Option MemberView) Fault
found_by_name a name items = first_named name items >>= member_of_symbol a

-- the records of a table after its first symbol
abbrev pub records_after : ArchiveKind → IndexTable → List ℕ
records_after Gnu t = drop t.width t.records
records_after Bsd t = drop (2 * t.width) t.records

abbrev pub names_after : ArchiveKind → IndexTable → List ℕ → PlacedText
names_after Gnu t name = rest_of_text (length name + 1) t.names
names_after Bsd t name = t.names

abbrev pub after_symbol : IndexTable → List ℕ → IndexTable
after_symbol t name =
    record {
      kind = t.kind;
      le = t.le;
      width = t.width;
      count = t.count - 1;
      records = records_after t.kind t;
      names = names_after t.kind t name;
    }

-- the first n symbols of a table; they end after the first fault
unfoldable pub index_symbols : ℕ → IndexTable → List (Result IndexSymbol Fault)
index_symbols zero t = []
index_symbols (suc n) t = then_items (index_symbol_at t 0) (λ s. s) (λ s. index_symbols n (after_symbol t s.name))

-- all symbols of a table
abbrev pub table_symbols : IndexTable → List (Result IndexSymbol Fault)
table_symbols t = index_symbols t.count t
