-- The members of an archive are one list, and so are its symbols. Their names are at their places.
use Rattle.std.proofs.Common.{◌≡◌, ◌-◌, ℕ, List, [], ◌∷◌, length, Option, Some, None, option_map, Result, Ok, Err, inl, inr, refl, ap, ◌∙◌, arith}
use Rattle.mach_base.specs.Among.{IsAmong}
use Rattle.mach_base.specs.Fault.{Fault}
use Rattle.mach_base.specs.Answer.{Reads, ◌>>=◌}
use Rattle.mach_base.specs.declared.error.Error.{Error}
use Rattle.mach_base.proofs.Binds.{bind_ok, chosen, same_ok}
use Rattle.mach_archive.specs.ArchiveViews.{member_view}
use Rattle.mach_archive.specs.Archives.{ArchiveView, archive_in, archive_member_at}
use Rattle.mach_archive.specs.IndexSymbols.{IndexSymbol, AreIndexSymbols, first_named, found_by_name, member_of_symbol, table_symbols}
use Rattle.mach_archive.specs.IndexTables.{IndexTable, archive_table}
use Rattle.mach_archive.specs.MemberNames.{NameIsThere, member_name_bytes}
use Rattle.mach_archive.specs.declared.member.Member.{Member}
use Rattle.mach_archive.specs.Members.{MemberView}
use Rattle.mach_archive.proofs.ArchiveLaws.{listed_name, single_name, symbol_name}
use Rattle.mach_archive.proofs.MembersRead.{members_are}
use Rattle.mach_archive.proofs.SymbolsRead.{symbols_are}
use Rattle.goblin_mach.specs.Items.{members_within}
use Rattle.goblin_mach_c.specs.ArchiveFinds.{first_of_name, found_by_symbol, has_name, member_by_name, member_by_symbol}
use Rattle.goblin_mach_c.specs.ArchiveItems.{archive_members, archive_symbols, items_or_fault, symbols_of_table, symbols_of_view, AreNamesThere}
use Rattle.goblin_mach_c.specs.ArchiveItems.{AreSymbolNamesThere}

-- the member that a name finds, if the symbols are those of the table
module _ (a : ArchiveView) (name : List ℕ) (r : Result (Option Member) Error)
    (found : (t : IndexTable) (items : List (Result IndexSymbol Fault)) → archive_table a ≡ Ok (Some t) → AreIndexSymbols t 0 items
    → Reads (option_map member_view) r (found_by_name a name items))
    (without : archive_table a ≡ Ok None → Reads (option_map member_view) r (Ok None))
    (refused : (f : Fault) → archive_table a ≡ Err f → Reads (option_map member_view) r (Err f)) where
  abbrev target : Result (Option IndexTable) Fault → Result (Option MemberView) Fault
  target table = (table >>= (λ t. Ok (symbols_of_table t))) >>= found_by_name a name

  by_table : (table : Result (Option IndexTable) Fault) → archive_table a ≡ table → Reads (option_map member_view) r (target table)
  by_table (Ok (Some t)) e = found t (table_symbols t) e (symbols_are t)
  by_table (Ok None) e = without e
  by_table (Err f) e = refused f e

  pub found_listed : Reads (option_map member_view) r (found_by_symbol a name)
  found_listed = by_table (archive_table a) refl

-- ---- names of the archive in some bytes

module _ (bytes : List ℕ) where
  listed_in : (a : ArchiveView) → archive_in bytes ≡ Ok a → AreNamesThere bytes (members_within a)
  listed_in a opened m =
      listed_name bytes a opened a.begin (members_within a) m (members_are a.bytes a.names (length a.bytes - a.begin) a.begin (omega arith))

  listed_by : (r : Result ArchiveView Fault) → archive_in bytes ≡ r → AreNamesThere bytes (items_or_fault (r >>= (λ a. Ok (members_within a))))
  listed_by (Ok a) opened m among = listed_in a opened m among
  listed_by (Err f) opened m (inl same) = absurd (cc)
  listed_by (Err f) opened m (inr later) = absurd later

  pub members_named : AreNamesThere bytes (archive_members bytes)
  members_named = listed_by (archive_in bytes) refl

  indexed_in : (a : ArchiveView) → archive_in bytes ≡ Ok a → (r : Result (Option IndexTable) Fault) → archive_table a ≡ r
      → AreSymbolNamesThere bytes (items_or_fault (r >>= (λ t. Ok (symbols_of_table t))))
  indexed_in a opened (Ok (Some t)) table s among = symbol_name bytes a opened t 0 (table_symbols t) s table (symbols_are t) among
  indexed_in a opened (Ok None) table s among = absurd among
  indexed_in a opened (Err f) table s (inl same) = absurd (cc)
  indexed_in a opened (Err f) table s (inr later) = absurd later

  indexed_by : (r : Result ArchiveView Fault) → archive_in bytes ≡ r → AreSymbolNamesThere bytes (items_or_fault (r >>= symbols_of_view))
  indexed_by (Ok a) opened s among = indexed_in a opened (archive_table a) refl s among
  indexed_by (Err f) opened s (inl same) = absurd (cc)
  indexed_by (Err f) opened s (inr later) = absurd later

  pub symbols_named : AreSymbolNamesThere bytes (archive_symbols bytes)
  symbols_named = indexed_by (archive_in bytes) refl

  found_in : (a : ArchiveView) (o : Option IndexSymbol) (m : MemberView) → archive_in bytes ≡ Ok a → member_of_symbol a o ≡ Ok (Some m)
      → NameIsThere bytes m
  found_in a None m opened e = absurd (let wrong : ◌≡◌ {A = Option MemberView} None (Some m) = same_ok e in cc)
  found_in a (Some s) m opened e =
      let there = bind_ok (archive_member_at a s.member) made (Some m) e in
      let same : ◌≡◌ {A = Option MemberView} (Some there.0) (Some m) = same_ok there.2 in
      single_name bytes a opened s.member m (there.1 ∙ ap Ok (cc))
    where
      made : MemberView → Result (Option MemberView) Fault
      made x = Ok (Some x)

  pub symbols_member_named : (name : List ℕ) (m : MemberView) → member_by_symbol bytes name ≡ Ok (Some m) → NameIsThere bytes m
  symbols_member_named name m e =
      let archive = bind_ok (archive_in bytes) (λ a. found_by_symbol a name) (Some m) e in
      let items = bind_ok (symbols_of_view archive.0) (found_by_name archive.0 name) (Some m) archive.2 in
      let symbol = bind_ok (first_named name items.0) (member_of_symbol archive.0) (Some m) items.2 in
      found_in archive.0 symbol.0 m archive.1 symbol.2

-- the first of a name is among the items
first_among : (name : List ℕ) (items : List (Result MemberView Fault)) (m : MemberView) → first_of_name name items ≡ Ok (Some m) → IsAmong (Ok m) items
first_among name [] m e = absurd (let wrong : ◌≡◌ {A = Option MemberView} None (Some m) = same_ok e in cc)
first_among name (Err f ∷ items) m e = absurd (cc)
first_among name (Ok n ∷ items) m e =
    elim (chosen (has_name name (member_name_bytes n)) (Ok (Some n)) (first_of_name name items) (Ok (Some m)) e) [
      | inl here ↦ let same : ◌≡◌ {A = Option MemberView} (Some n) (Some m) = same_ok here.1 in inl (cc)
      | inr later ↦ inr (first_among name items m later.1)
    ]

pub first_member_named : (bytes name : List ℕ) (m : MemberView) → member_by_name bytes name ≡ Ok (Some m) → NameIsThere bytes m
first_member_named bytes name m e =
    let archive = bind_ok (archive_in bytes) (λ a. first_of_name name (members_within a)) (Some m) e in
    listed_in bytes archive.0 archive.1 m (first_among name (members_within archive.0) m archive.2)
