-- Texts at their places: parts of texts, and the names of members and symbols.
use Rattle.std.proofs.Common.{◌≡◌, ◌==◌, ◌||◌, ℕ, ◌+◌, ◌-◌, ◌*◌, ◌/◌, ◌%◌, ◌<◌, ◌≤◌, List, length, take, drop, Option, Some, None, option_map, Result, Ok, Err}
use Rattle.std.proofs.Common.{unwrap_or, codes, cond, nat_eq, nat_le, nat_lt, ◌⊎◌, inl, inr, sym, ap, ◌∙◌, subst, arith}
use Rattle.std.specs.List.{before_first, ends_with, position_or_len, starts_with, suffix_len}
use Rattle.std.specs.Str.{bytes_eq}
use Rattle.std.proofs.lemmas.Bool.{cases_lt, leb-true, ltb-true}
use Rattle.std.proofs.lemmas.List.{drop-drop, drop-take, length-drop, length-take, length-take-le, take-take, take_all}
use Rattle.mach_base.specs.declared.context.Endian.{Endian}
use Rattle.mach_base.specs.declared.context.Endian.TheVariants.{Big, Little}
use Rattle.mach_base.specs.Answer.{◌>>=◌}
use Rattle.mach_base.specs.Fault.{Fault, malformed, too_big, too_short}
use Rattle.mach_base.specs.Number.{number, number_at}
use Rattle.mach_base.specs.Sums.{found_or_malformed}
use Rattle.mach_base.specs.Text.{is_zero, run_at}
use Rattle.mach_base.proofs.Binds.{bind_ok, chosen, same_ok}
use Rattle.mach_archive.specs.declared.archive.ArchiveKind.{ArchiveKind}
use Rattle.mach_archive.specs.declared.archive.ArchiveKind.TheVariants.{Bsd, Gnu}
use Rattle.mach_archive.specs.Archives.{ArchiveIndexView, index_of}
use Rattle.mach_archive.specs.Fields.{is_space, numeral, without_end, word_of}
use Rattle.mach_archive.specs.IndexSymbols.{IndexSymbol, ended_text, index_symbol_at, symbol_member, symbol_name_place}
use Rattle.mach_archive.specs.IndexTables.{IndexTable, bsd_names, bsd_table_in, bsd_table_of, gnu_table_of, index_table, index_table_by, or_else_read}
use Rattle.mach_archive.specs.MemberHeaders.{MemberHeader, member_header_at, name_field}
use Rattle.mach_archive.specs.MemberNames.{NameIsThere, before_slash, gnu_name, gnu_place, is_newline, is_slash, line_at, name_by, name_place_by}
use Rattle.mach_archive.specs.Members.{LongNames, body_of, body_place, long_name_of, member_of}
use Rattle.mach_archive.specs.Places.{IsTextAt, PlacedText, rest_of_text, front_of_text}
use Rattle.mach_archive.proofs.HeadersRead.{header_occurs}
use Rattle.mach_archive.proofs.SymbolsRead.{ended_is}

same_front : (n : ℕ) (text : List ℕ) → take (length (take n text)) text ≡ take n text
same_front n text = elim (cases_lt n (length text)) [
  | inl less ↦ ap (λ (k : ℕ). take k text) (length-take-le n text (omega arith))
  | inr all ↦
      let whole : take n text ≡ text = take_all n text all in
      subst (λ (t : List ℕ). take (length t) text ≡ t) (sym whole) (take_all (length text) text (omega arith))
]

found_is : (o : Option ℕ) (n : ℕ) → found_or_malformed o ≡ Ok n → unwrap_or o 0 ≡ n
found_is None n e = absurd (cc)
found_is (Some m) n e = same_ok e

either_read : {A : Type 0} (first second : Result A Fault) (x : A) → or_else_read first second ≡ Ok x → (first ≡ Ok x) ⊎ (second ≡ Ok x)
either_read (Ok y) second x e = inl e
either_read (Err f) (Ok y) x e = inr e
either_read (Err f) (Err g) x e = absurd (cc)

module _ (bytes : List ℕ) where
  -- the text, if there is one, is in the bytes
  abbrev pub IsThere : Option PlacedText → Type 0
  IsThere None = Unit {0}
  IsThere (Some p) = IsTextAt p.text bytes p.place

  pub part_there : (n place : ℕ) → place + n ≤ length bytes → IsTextAt (take n (drop place bytes)) bytes place
  part_there n place room =
      let len : length (take n (drop place bytes)) ≡ n = length-take-le n (drop place bytes) (omega (arith, length-drop place bytes)) in
      record { within = omega (arith, len); same = ap (λ (k : ℕ). take k (drop place bytes)) len }

  -- the front of a text, and the rest after it
  pub front_there : (n place : ℕ) (text : List ℕ) → IsTextAt text bytes place → IsTextAt (take n text) bytes place
  front_there n place text there =
      let few : length (take n text) ≤ length text = omega (arith, length-take n text) in
      record {
        within = omega (arith, there.within, few);
        same = sym (take-take (length (take n text)) (length text) (drop place bytes) few) ∙ (ap (take (length (take n text))) there.same ∙ same_front n text);
      }

  pub rest_there : (n place : ℕ) (text : List ℕ) → n ≤ length text → IsTextAt text bytes place → IsTextAt (drop n text) bytes (place + n)
  rest_there n place text inside there =
      let m = length text - n in
      let len : length (drop n text) ≡ m = length-drop n text in
      let sum : n + m ≡ length text = omega arith in
      record {
        within = omega (arith, there.within, len);
        same =
            ap (λ (k : ℕ). take k (drop (place + n) bytes)) len
            ∙ (ap (take m) (sym (drop-drop n place bytes))
            ∙ (sym (drop-take n m (drop place bytes))
            ∙ (ap (λ (k : ℕ). drop n (take k (drop place bytes))) sum ∙ ap (drop n) there.same)));
      }

  -- ---- what follows a header

  pub body_there : (from : ℕ) (h : MemberHeader) → member_header_at bytes from ≡ Ok h → IsTextAt (body_of bytes h) bytes (body_place h)
  body_there from h e =
      let there = header_occurs bytes from h e in part_there (h.size - unwrap_or h.long 0) (body_place h) (omega (arith, there.place, there.room, there.long))

  long_there : (place size : ℕ) (long : Option ℕ) → place + 60 + size ≤ length bytes → unwrap_or long 0 ≤ size
      → IsThere (option_map (λ n. record { place = place + 60; text = take n (drop (place + 60) bytes) }) long)
  long_there place size None room few = tt
  long_there place size (Some n) room few = part_there n (place + 60) (omega arith)

  -- ---- names of members

  line_there : (names : PlacedText) (n : ℕ) (line : List ℕ) → IsTextAt names.text bytes names.place → line_at names.text n ≡ Ok line
      → IsTextAt line bytes (names.place + n)
  line_there names n line there e =
      let whole = before_first is_newline (drop n names.text) in
      elim (chosen (nat_lt (n + length whole) (length names.text)) (Ok whole) (Err malformed) (Ok line) e) [
        | inl inside ↦
            let room : n + length whole < length names.text = ltb-true (n + length whole) (length names.text) inside.0 in
            subst (λ (l : List ℕ). IsTextAt l bytes (names.place + n)) (same_ok inside.1)
            (front_there (position_or_len is_newline (drop n names.text)) (names.place + n) (drop n names.text)
            (rest_there n names.place names.text (omega arith) there))
        | inr past ↦ absurd (let wrong = past.1 in cc)
      ]

  slash_there : (line name : List ℕ) (place : ℕ) → IsTextAt line bytes place → before_slash line ≡ Ok name → IsTextAt name bytes place
  slash_there line name place there e =
      elim (chosen (ends_with nat_eq line (codes "/")) (Ok (take (length line - 1) line)) (Err malformed) (Ok name) e) [
        | inl ends ↦ subst (λ (l : List ℕ). IsTextAt l bytes place) (same_ok ends.1) (front_there (length line - 1) place line there)
        | inr other ↦ absurd (let wrong = other.1 in cc)
      ]

  gnu_there : (names : PlacedText) (header : ℕ) (field name : List ℕ) → IsTextAt names.text bytes names.place → IsTextAt field bytes header
      → gnu_name names.text field ≡ Ok name → IsTextAt name bytes (gnu_place names.place header field)
  gnu_there names header field name listed there e =
      elim (chosen (bytes_eq word (codes "/") || bytes_eq word (codes "//")) (Ok word) (other) (Ok name) e) [
        | inl own ↦ rw own.0 (subst (λ (l : List ℕ). IsTextAt l bytes header) (same_ok own.1) (front_there (position_or_len is_space field) header field there))
        | inr more ↦ rw more.0 (elim (chosen (starts_with nat_eq field (codes "/")) (in_list) (Ok short) (Ok name) more.1) [
          | inl long ↦ rw long.0
              (let line = bind_ok (found_or_malformed (numeral 10 (drop 1 word)) >>= line_at names.text) before_slash name long.1 in
              let number = bind_ok (found_or_malformed (numeral 10 (drop 1 word))) (line_at names.text) line.0 line.1 in
              let same : number.0 ≡ unwrap_or (numeral 10 (drop 1 word)) 0 = sym (found_is (numeral 10 (drop 1 word)) number.0 number.1) in
              subst (λ (n : ℕ). IsTextAt name bytes (names.place + n)) same
              (slash_there line.0 name (names.place + number.0) (line_there names number.0 line.0 listed number.2) line.2))
          | inr brief ↦ rw brief.0 (subst (λ (l : List ℕ). IsTextAt l bytes header) (same_ok brief.1)
              (front_there (length first - suffix_len is_space first) header first (front_there (position_or_len is_slash field) header field there)))
        ])
      ]
    where
      word : List ℕ
      word = word_of field

      first : List ℕ
      first = before_first is_slash field

      short : List ℕ
      short = without_end is_space first

      in_list : Result (List ℕ) Fault
      in_list = (found_or_malformed (numeral 10 (drop 1 word)) >>= line_at names.text) >>= before_slash

      other : Result (List ℕ) Fault
      other = cond (starts_with nat_eq field (codes "/")) (in_list) (Ok short)

  by_form : (long : Option PlacedText) (names : LongNames) (header : ℕ) (field name : List ℕ) → IsThere long → IsThere names → IsTextAt field bytes header
      → name_by long names field ≡ Ok name → IsTextAt name bytes (name_place_by long names header field)
  by_form (Some long) names header field name here listed there e =
      subst (λ (l : List ℕ). IsTextAt l bytes long.place) (same_ok e)
      (front_there (length long.text - suffix_len is_zero long.text) long.place long.text here)
  by_form None None header field name here listed there e =
      subst (λ (l : List ℕ). IsTextAt l bytes header) (same_ok e) (front_there (position_or_len is_space field) header field there)
  by_form None (Some names) header field name here listed there e = gnu_there names header field name listed there e

  -- the name of a member whose header was read
  pub name_there : (names : LongNames) (from : ℕ) (h : MemberHeader) → IsThere names → member_header_at bytes from ≡ Ok h
      → NameIsThere bytes (member_of bytes names h)
  name_there names from h listed e name read =
      let there = header_occurs bytes from h e in
      let room : h.place + 60 + h.size ≤ length bytes = omega (arith, there.place, there.room) in
      let fields : IsTextAt h.fields bytes h.place =
      subst (λ (p : ℕ). IsTextAt h.fields bytes p) (sym there.place)
      (subst (λ (f : List ℕ). IsTextAt f bytes from) (sym there.fields) (part_there 60 from (omega (arith, there.room))))
      in
      by_form (long_name_of bytes h) names h.place (name_field h.fields) name (long_there h.place h.size h.long room there.long) listed
      (front_there 16 h.place h.fields fields) read

  -- ---- names of symbols

  -- the index is in the bytes, if there is one
  abbrev pub IsIndexThere : Option ArchiveIndexView → Type 0
  IsIndexThere None = Unit {0}
  IsIndexThere (Some index) = IsTextAt index.table.text bytes index.table.place

  pub index_there : (h : MemberHeader) (width : Option ℕ) → IsTextAt (body_of bytes h) bytes (body_place h) → IsIndexThere (index_of bytes h width)
  index_there h None there = tt
  index_there h (Some w) there = there

  gnu_names_there : (w n : ℕ) (p : PlacedText) (t : IndexTable) → IsTextAt p.text bytes p.place → gnu_table_of w p n ≡ Ok t
      → IsTextAt t.names.text bytes t.names.place
  gnu_names_there w n p t there e =
      elim (chosen (nat_le (w + w * n) (length p.text)) (Ok table) (Err (too_short n (codes "symbols"))) (Ok t) e) [
        | inl inside ↦
            subst (λ (x : IndexTable). IsTextAt x.names.text bytes x.names.place) (same_ok inside.1)
            (rest_there (w + w * n) p.place p.text (leb-true (w + w * n) (length p.text) inside.0) there)
        | inr past ↦ absurd (let wrong = past.1 in cc)
      ]
    where
      table : IndexTable
      table = record { kind = Gnu; le = Big; width = w; count = n; records = drop w p.text; names = rest_of_text (w + w * n) p }

  bsd_names_there : (le : Endian) (w : ℕ) (p : PlacedText) (t : IndexTable) → IsTextAt p.text bytes p.place → bsd_table_in le w p ≡ Ok t
      → IsTextAt t.names.text bytes t.names.place
  bsd_names_there le w p t there e =
      let number_read = bind_ok (number_at le w p.text 0) (bsd_table_of le w p) t e in
      let n = number_read.0 in
      elim (chosen (n % (2 * w) == 0) (whole n) (Err malformed) (Ok t) number_read.2) [
        | inr part ↦ absurd (let wrong = part.1 in cc)
        | inl even ↦ elim (chosen (nat_le (w + n + w) (length p.text)) (bsd_names le w p n (size n)) (Err (too_short (n / (2 * w)) (codes "symbols")))
            (Ok t) even.1) [
              | inr past ↦ absurd (let wrong = past.1 in cc)
              | inl inside ↦ elim (chosen (nat_le (size n) (length p.text - (w + n + w))) (Ok (table n (size n))) (Err (too_big (size n) (length p.text
                  - (w + n + w)))) (Ok t) inside.1) [
                    | inr long ↦ absurd (let wrong = long.1 in cc)
                    | inl room ↦
                        subst (λ (x : IndexTable). IsTextAt x.names.text bytes x.names.place) (same_ok room.1)
                        (front_there (size n) (p.place + (w + n + w)) (drop (w + n + w) p.text)
                        (rest_there (w + n + w) p.place p.text (leb-true (w + n + w) (length p.text) inside.0) there))
                  ]
            ]
      ]
    where
      size : ℕ → ℕ
      size n = number le w (drop (w + n) p.text)

      table : (n s : ℕ) → IndexTable
      table n s =
          record {
            kind = Bsd;
            le = le;
            width = w;
            count = n / (2 * w);
            records = drop w p.text;
            names = front_of_text s (rest_of_text (w + n + w) p);
          }

      whole : ℕ → Result IndexTable Fault
      whole n =
          cond (nat_le (w + n + w) (length p.text)) (bsd_names le w p n (size n)) (Err (too_short (n / (2 * w)) (codes "symbols")))

  by_kind : (kind : ArchiveKind) (index : ArchiveIndexView) (t : IndexTable) → IsTextAt index.table.text bytes index.table.place
      → index_table kind index ≡ Ok t → IsTextAt t.names.text bytes t.names.place
  unfolding index_table
  by_kind Gnu index t there e =
      let w = index.width in
      let n = bind_ok (number_at Big w index.table.text 0) (gnu_table_of w index.table) t e in
      gnu_names_there w n.0 index.table t there n.2
  by_kind Bsd index t there e =
      elim (either_read (bsd_table_in Little index.width index.table) (bsd_table_in Big index.width index.table) t e) [
        | inl little ↦ bsd_names_there Little index.width index.table t there little
        | inr big ↦ bsd_names_there Big index.width index.table t there big
      ]

  pub names_there : (kind : ArchiveKind) (index : Option ArchiveIndexView) (t : IndexTable) → IsIndexThere index
      → index_table_by kind index ≡ Ok (Some t) → IsTextAt t.names.text bytes t.names.place
  names_there kind None t there e = absurd (let wrong : ◌≡◌ {A = Option IndexTable} None (Some t) = same_ok e in cc)
  names_there kind (Some index) t there e =
      let read = bind_ok (index_table kind index) made (Some t) e in
      let same : ◌≡◌ {A = Option IndexTable} (Some read.0) (Some t) = same_ok read.2 in
      by_kind kind index t there (read.1 ∙ ap Ok (cc))
    where
      made : IndexTable → Result (Option IndexTable) Fault
      made x = Ok (Some x)

  pub symbol_there : (t : IndexTable) (k : ℕ) (s : IndexSymbol) → IsTextAt t.names.text bytes t.names.place → index_symbol_at t k ≡ Ok s
      → IsTextAt s.name bytes s.place
  unfolding index_symbol_at
  symbol_there t k s there e =
      let place = symbol_name_place t.kind t k in
      let text = bind_ok (ended_text t.names.text place) made s e in
      let ended = ended_is t.names.text place text.0 text.1 in
      let whole : IsTextAt (run_at t.names.text place) bytes (t.names.place + place) =
      front_there (position_or_len is_zero (drop place t.names.text)) (t.names.place + place) (drop place t.names.text)
      (rest_there place t.names.place t.names.text (let low = ended.1 in omega arith) there)
      in
      subst (λ (x : IndexSymbol). IsTextAt x.name bytes x.place) (same_ok text.2)
      (subst (λ (l : List ℕ). IsTextAt l bytes (t.names.place + place)) (sym ended.0) whole)
    where
      made : List ℕ → Result IndexSymbol Fault
      made name = Ok (record { name = name; place = t.names.place + symbol_name_place t.kind t k; member = symbol_member t.kind t k })
