-- Laws of archives: where members begin, and that `member_at` returns each at its place.
use Rattle.std.proofs.Common.{◌≡◌, ◌==◌, ◌||◌, ℕ, ◌+◌, ◌≤◌, ◌∷◌, ◌++◌, Bool, true, false, cond, List, [], length, Option, Some, None}
use Rattle.std.proofs.Common.{Result, Ok, Err, is_some, nat_le, nat_lt, codes, inl, inr, refl, sym, ap, subst, ◌∙◌, arith}
use Rattle.std.specs.Str.{bytes_eq}
use Rattle.std.proofs.lemmas.Bool.{le-ltb}
use Rattle.mach_base.specs.declared.context.Endian.TheVariants.{Big}
use Rattle.mach_base.specs.Among.{IsAmong}
use Rattle.mach_base.specs.Answer.{◌>>=◌}
use Rattle.mach_base.specs.Fault.{Fault, malformed, bad_magic}
use Rattle.mach_base.specs.Number.{number, slice_at}
use Rattle.mach_base.proofs.Binds.{bind_ok, chosen, same_ok}
use Rattle.mach_archive.specs.Fields.{word_of}
use Rattle.mach_archive.specs.IndexSymbols.{AreIndexSymbols, IndexSymbol}
use Rattle.mach_archive.specs.IndexTables.{IndexTable, archive_table}
use Rattle.mach_archive.specs.MemberNames.{NameIsThere}
use Rattle.mach_archive.specs.MemberHeaders.{MemberHeader, member_header_at, name_field, next_header}
use Rattle.mach_archive.specs.Members.{MemberView, member_of, body_of, body_place, placed_body, AreMembers}
use Rattle.mach_archive.specs.Places.{IsTextAt, PlacedText}
use Rattle.mach_archive.specs.Archives.{ArchiveView, archive_in, archive_by_magic, archive_after_magic, archive_by, empty_archive, bsd_archive, bsd_width}
use Rattle.mach_archive.specs.Archives.{gnu_archive, gnu_width, index_name, index_of, after_index, names_at, names_or_none, archive_member_at}
use Rattle.mach_archive.specs.Archives.{archive_kind, no_names}
use Rattle.mach_archive.proofs.HeadersRead.{header_occurs, further}
use Rattle.mach_archive.proofs.TextsThere.{IsThere, IsIndexThere, body_there, index_there, name_there, names_there, symbol_there}

-- a member among those from a place on is the one at its own place
pub at_its_place : (a : ArchiveView) (from : ℕ) (items : List (Result MemberView Fault)) (m : MemberView) → 8 ≤ from → AreMembers a.bytes a.names from items
    → IsAmong (Ok m) items → archive_member_at a m.offset ≡ Ok m
at_its_place a from [] m following are among = absurd among
at_its_place a from (Err f ∷ items) m following are among = elim among [
  | inl same ↦ absurd (cc)
  | inr later ↦ absurd (subst (λ (others : List (Result MemberView Fault)). IsAmong (Ok m) others) are.2 later)
]
at_its_place a from (Ok n ∷ items) m following are among =
    let h = are.1.0 in
    let on = further a.bytes from h are.1.1 in
    elim among [
      | inr later ↦ at_its_place a (next_header h) items m (omega arith) are.1.3 later
      | inl same ↦
          let is : m ≡ member_of a.bytes a.names h = same_ok same ∙ are.1.2 in
          let there = header_occurs a.bytes from h are.1.1 in
          let offset : m.offset ≡ from = ap (λ (v : MemberView). v.offset) is ∙ there.place in
          let test : nat_lt m.offset 8 ≡ false = le-ltb m.offset 8 (omega (arith, offset)) in
          let header : member_header_at a.bytes m.offset ≡ Ok h = ap (member_header_at a.bytes) offset ∙ are.1.1 in
          rw (test, header) (ap Ok (sym is))
    ]

-- the place after the first header, which follows the magic, lies after the magic
following : (h : MemberHeader) (width : Option ℕ) → h.place ≡ 8 → 8 ≤ next_header h → 8 ≤ after_index h width
following h None place next = omega (arith, place)
following h (Some w) place next = next

-- where members begin, and that the list of names and the index are in the bytes
record Begins (bytes : List ℕ) (a : ArchiveView) : Type 0 where
  pub same : a.bytes ≡ bytes
  pub begin : 8 ≤ a.begin
  pub names : IsThere bytes a.names
  pub index : IsIndexThere bytes a.index

nothing_there : (bytes : List ℕ) → IsTextAt [] bytes 0
nothing_there bytes = record { within = omega arith; same = refl }

abbrev NamesBegin : List ℕ → PlacedText × ℕ → Type 0
NamesBegin bytes found = (8 ≤ found.1) × IsTextAt found.0.text bytes found.0.place

names_begin : (bytes : List ℕ) (from : ℕ) (found : PlacedText × ℕ) → 8 ≤ from → names_at bytes from ≡ Ok found → NamesBegin bytes found
names_begin bytes from found inside e =
    elim (chosen (nat_le (length bytes) from) (Ok (no_names, from)) (member_header_at bytes from >>= made) (Ok found) e) [
      | inl past ↦ subst (NamesBegin bytes) (same_ok past.1) (inside, nothing_there bytes)
      | inr there ↦
          let header = bind_ok (member_header_at bytes from) made found there.1 in
          let h = header.0 in
          let on = further bytes from h header.1 in
          let occurs = header_occurs bytes from h header.1 in
          let same : names_or_none bytes h ≡ found = same_ok header.2 in
          subst (NamesBegin bytes) same
          (either (bytes_eq (word_of (name_field h.fields)) (codes "//")) h (omega (arith, occurs.place)) (omega arith) (body_there bytes from h header.1))
    ]
  where
    made : MemberHeader → Result (PlacedText × ℕ) Fault
    made h = Ok (names_or_none bytes h)

    either : (b : Bool) (h : MemberHeader) → 8 ≤ h.place → 8 ≤ next_header h → IsTextAt (body_of bytes h) bytes (body_place h)
        → NamesBegin bytes (cond {A = PlacedText × ℕ} b (placed_body bytes h, next_header h) (no_names, h.place))
    either true h place next there = (next, there)
    either false h place next there = (place, nothing_there bytes)

by_header : (bytes : List ℕ) (h : MemberHeader) (a : ArchiveView) → h.place ≡ 8 → 8 ≤ next_header h → IsTextAt (body_of bytes h) bytes (body_place h)
    → archive_by bytes h ≡ Ok a → Begins bytes a
by_header bytes h a place next there e =
    elim (chosen (is_some h.long || is_some (bsd_width (index_name bytes h))) (Ok (bsd_archive bytes h)) (gnu_archive bytes h) (Ok a) e) [
      | inl bsd ↦
          subst (Begins bytes) (same_ok bsd.1)
          (record {
            same = refl;
            begin = following h (bsd_width (index_name bytes h)) place next;
            names = tt;
            index = index_there bytes h (bsd_width (index_name bytes h)) there;
          })
      | inr gnu ↦
          let found = bind_ok (names_at bytes (after_index h width)) made a gnu.1 in
          let names = names_begin bytes (after_index h width) found.0 (following h width place next) found.1 in
          subst (Begins bytes) (same_ok found.2) (record { same = refl; begin = names.0; names = names.1; index = index_there bytes h width there })
    ]
  where
    width : Option ℕ
    width = gnu_width (word_of (name_field h.fields))

    made : PlacedText × ℕ → Result ArchiveView Fault
    made found = Ok (record { bytes = bytes; index = index_of bytes h width; names = Some found.0; begin = found.1 })

after_magic : (bytes : List ℕ) (a : ArchiveView) → archive_after_magic bytes ≡ Ok a → Begins bytes a
after_magic bytes a e = elim (chosen (length bytes == 8) (Ok (empty_archive bytes)) (member_header_at bytes 8 >>= archive_by bytes) (Ok a) e) [
  | inl empty ↦ subst (Begins bytes) (same_ok empty.1) (record { same = refl; begin = omega arith; names = nothing_there bytes; index = tt })
  | inr some ↦
      let header = bind_ok (member_header_at bytes 8) (archive_by bytes) a some.1 in
      let occurs = header_occurs bytes 8 header.0 header.1 in
      let on = further bytes 8 header.0 header.1 in
      by_header bytes header.0 a occurs.place (omega arith) (body_there bytes 8 header.0 header.1) header.2
]

-- an archive's view holds its bytes; its members begin after the magic, and its list of names and its index are where the view says
begins : (bytes : List ℕ) (a : ArchiveView) → archive_in bytes ≡ Ok a → Begins bytes a
unfolding archive_in
begins bytes a e =
    let magic = bind_ok (slice_at 8 bytes 0) (archive_by_magic bytes) a e in
    elim (chosen (bytes_eq magic.0 (codes "!<thin>" ++ 0x0a ∷ [])) (Err malformed) (other magic.0) (Ok a) magic.2) [
      | inl thin ↦ absurd (let wrong = thin.1 in cc)
      | inr rest ↦ elim (chosen (bytes_eq magic.0 (codes "!<arch>" ++ 0x0a ∷ [])) (archive_after_magic bytes) (Err (bad_magic (number Big 4
          magic.0))) (Ok a) rest.1) [
            | inl there ↦ after_magic bytes a there.1
            | inr none ↦ absurd (let wrong = none.1 in cc)
          ]
    ]
  where
    other : List ℕ → Result ArchiveView Fault
    other magic = cond (bytes_eq magic (codes "!<arch>" ++ 0x0a ∷ [])) (archive_after_magic bytes) (Err (bad_magic (number Big 4 magic)))

pub archive_begins : (bytes : List ℕ) (a : ArchiveView) → archive_in bytes ≡ Ok a → (a.bytes ≡ bytes) × (8 ≤ a.begin)
archive_begins bytes a e = let there = begins bytes a e in (there.same, there.begin)

-- ---- names are at their places

module _ (bytes : List ℕ) (a : ArchiveView) (opened : archive_in bytes ≡ Ok a) where
  there : Begins bytes a
  there = begins bytes a opened

  -- the name of the member of a header
  of_header : (from : ℕ) (h : MemberHeader) → member_header_at a.bytes from ≡ Ok h → NameIsThere bytes (member_of a.bytes a.names h)
  of_header from h e =
      subst (λ (bs : List ℕ). member_header_at bs from ≡ Ok h → NameIsThere bytes (member_of bs a.names h)) (sym there.same)
      (name_there bytes a.names from h there.names) e

  pub listed_name : (from : ℕ) (items : List (Result MemberView Fault)) (m : MemberView) → AreMembers a.bytes a.names from items → IsAmong (Ok m) items
      → NameIsThere bytes m
  listed_name from [] m are among = absurd among
  listed_name from (Err f ∷ items) m are among = elim among [
    | inl same ↦ absurd (cc)
    | inr later ↦ absurd (subst (λ (others : List (Result MemberView Fault)). IsAmong (Ok m) others) are.2 later)
  ]
  listed_name from (Ok n ∷ items) m are among = elim among [
    | inr later ↦ listed_name (next_header are.1.0) items m are.1.3 later
    | inl same ↦ subst (NameIsThere bytes) (sym (same_ok same ∙ are.1.2)) (of_header from are.1.0 are.1.1)
  ]

  pub single_name : (place : ℕ) (m : MemberView) → archive_member_at a place ≡ Ok m → NameIsThere bytes m
  single_name place m e =
      elim (chosen (nat_lt place 8) (Err malformed) (member_header_at a.bytes place >>= made) (Ok m) e) [
        | inl before ↦ absurd (let wrong = before.1 in cc)
        | inr after ↦
            let header = bind_ok (member_header_at a.bytes place) made m after.1 in
            subst (NameIsThere bytes) (same_ok header.2) (of_header place header.0 header.1)
      ]
    where
      made : MemberHeader → Result MemberView Fault
      made h = Ok (member_of a.bytes a.names h)

  pub symbol_name : (t : IndexTable) (k : ℕ) (items : List (Result IndexSymbol Fault)) (s : IndexSymbol) → archive_table a ≡ Ok (Some t)
      → AreIndexSymbols t k items → IsAmong (Ok s) items → IsTextAt s.name bytes s.place
  symbol_name t k [] s table are among = absurd among
  symbol_name t k (Err f ∷ items) s table are among = elim among [
    | inl same ↦ absurd (cc)
    | inr later ↦ absurd (subst (λ (others : List (Result IndexSymbol Fault)). IsAmong (Ok s) others) are.2 later)
  ]
  symbol_name t k (Ok r ∷ items) s table are among = elim among [
    | inr later ↦ symbol_name t (k + 1) items s table are.2 later
    | inl same ↦ symbol_there bytes t k s (names_there bytes (archive_kind a.names) a.index t there.index table) (are.1 ∙ ap Ok (sym (same_ok same)))
  ]
