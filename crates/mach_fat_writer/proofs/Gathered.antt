-- Lists that are collected item by item; one refused item refuses them all.
use Rattle.std.proofs.Common.{◌≡◌, ℕ, ◌+◌, ◌-◌, ◌<◌, ◌≤◌, List, [], ◌∷◌, ◌++◌, length, drop, get_or, Some, None, Result, Ok, Err}
use Rattle.std.proofs.Common.{suc, refl, sym, ap, ◌∙◌, append_assoc, arith}
use Rattle.std.proofs.lemmas.List.{append-nil, at_drop_more, drop_all}
use Rattle.std.specs.Borrow.{Bor}
use Rattle.mach_base.specs.Fault.{Fault}
use Rattle.mach_base.specs.Items.{items_from, all_read}
use Rattle.mach_fat_writer.specs.Entries.{FatEntryView}
use Rattle.mach_fat_writer.specs.EntriesRead.{slice_of, entry_with, entry_ahead, entry_read_by, entries_by, file_entries}
use Rattle.mach_fat_writer.specs.Creates.{UnfitFile, entries_before, entries_of_files, texts_now, RefusesFiles}
use Rattle.mach_fat_writer.specs.Unfit.{Unfit, out_of_file, RefusesAs}
use Rattle.mach_fat_writer.specs.declared.refusal.EntryRefusal.{EntryRefusal}
use Rattle.mach_fat_writer.specs.declared.entry_record.EntryRecord.{EntryRecord}
use Rattle.mach_fat_writer.proofs.Refusals.{refused_as, unfit_file}

-- some items before others
abbrev pub before : {A E : Type 0} → List A → Result (List A) E → Result (List A) E
before front (Ok xs) = Ok (front ++ xs)
before front (Err e) = Err e

pub before_none : {A E : Type 0} (rest : Result (List A) E) → before [] rest ≡ rest
before_none (Ok xs) = refl
before_none (Err e) = refl

pub before_both : {A E : Type 0} (front more : List A) (rest : Result (List A) E) → before front (before more rest) ≡ before (front ++ more) rest
before_both front more (Ok xs) = ap Ok (sym (append_assoc front more xs))
before_both front more (Err e) = refl

pub before_all : {A E : Type 0} (front : List A) → before {E = E} front (Ok []) ≡ Ok front
before_all front = ap Ok (append-nil front)

read_before : {A : Type 0} (x : A) (items : List (Result A Fault)) (rest : Result (List A) Fault) → all_read items ≡ rest
    → all_read (Ok x ∷ items) ≡ before (x ∷ []) rest
read_before x items (Ok xs) is = rw is refl
read_before x items (Err f) is = rw is refl

-- n items, one of which was read
module _ {A : Type 0} (item : ℕ → Result A Fault) (n : ℕ) where
  items_more : (i : ℕ) → i < n → items_from item i (n - i) ≡ item i ∷ items_from item (i + 1) (n - (i + 1))
  items_more i inside = ap (items_from item i) (let one : n - i ≡ suc (n - (i + 1)) = omega (arith, inside) in one)

  pub read_first : (found : List A) → found ≡ [] → all_read (items_from item 0 n) ≡ before found (all_read (items_from item 0 n))
  read_first found none = sym (ap (λ xs. before xs (all_read (items_from item 0 n))) none ∙ before_none (all_read (items_from item 0 n)))

  pub read_next : (found pushed : List A) (i : ℕ) (x : A) → i < n
      → all_read (items_from item 0 n) ≡ before found (all_read (items_from item i (n - i))) → item i ≡ Ok x → pushed ≡ found ++ x ∷ []
      → all_read (items_from item 0 n) ≡ before pushed (all_read (items_from item (i + 1) (n - (i + 1))))
  read_next found pushed i x inside gathered is more =
      let rest = items_from item (i + 1) (n - (i + 1)) in
      gathered
      ∙ ap (λ items. before found (all_read items)) (items_more i inside ∙ ap (λ first. first ∷ rest) is)
      ∙ ap (before found) (read_before x rest (all_read rest) refl)
      ∙ before_both found (x ∷ []) (all_read rest)
      ∙ ap (λ xs. before xs (all_read rest)) (sym more)

  pub read_refused : (found : List A) (i : ℕ) (f : Fault) → i < n
      → all_read (items_from item 0 n) ≡ before found (all_read (items_from item i (n - i))) → item i ≡ Err f → all_read (items_from item 0 n) ≡ Err f
  read_refused found i f inside gathered is =
      gathered
      ∙ ap (λ items. before found (all_read items)) (items_more i inside ∙ ap (λ first. first ∷ items_from item (i + 1) (n - (i + 1))) is)

  pub read_all : (found : List A) (i : ℕ) → n ≤ i
      → all_read (items_from item 0 n) ≡ before found (all_read (items_from item i (n - i))) → all_read (items_from item 0 n) ≡ Ok found
  read_all found i past gathered =
      gathered
      ∙ ap (λ count. before found (all_read (items_from item i count))) (let none : n - i ≡ 0 = omega (arith, past) in none)
      ∙ before_all found

entry_ahead_is : (e : FatEntryView) (rest : Result (List FatEntryView) Unfit) → entry_ahead e rest ≡ before (e ∷ []) rest
entry_ahead_is e (Ok es) = refl
entry_ahead_is e (Err why) = refl

-- the entries of records, one of which was found
module _ (bytes : List ℕ) (records : List EntryRecord) where
  pub entries_next : (found pushed : List FatEntryView) (i : ℕ) (d : EntryRecord) (slice : List ℕ) → i < length records
      → entries_by bytes 0 records ≡ before found (entries_by bytes i (drop i records)) → slice_of bytes (get_or records i d) ≡ Some slice
      → pushed ≡ found ++ entry_with (get_or records i d) slice ∷ []
      → entries_by bytes 0 records ≡ before pushed (entries_by bytes (i + 1) (drop (i + 1) records))
  entries_next found pushed i d slice inside gathered is more =
      let r = get_or records i d in
      let rest = entries_by bytes (i + 1) (drop (i + 1) records) in
      gathered
      ∙ ap (before found) (at_drop_more (λ rs. entries_by bytes i rs) records i d inside)
      ∙ ap (λ there. before found (entry_read_by i r there rest)) is
      ∙ ap (before found) (entry_ahead_is (entry_with r slice) rest)
      ∙ before_both found (entry_with r slice ∷ []) rest
      ∙ ap (λ xs. before xs rest) (sym more)

  pub entries_refused : (found : List FatEntryView) (i : ℕ) (d : EntryRecord) → i < length records
      → entries_by bytes 0 records ≡ before found (entries_by bytes i (drop i records)) → slice_of bytes (get_or records i d) ≡ None
      → entries_by bytes 0 records ≡ Err (out_of_file i)
  entries_refused found i d inside gathered is =
      gathered
      ∙ ap (before found) (at_drop_more (λ rs. entries_by bytes i rs) records i d inside)
      ∙ ap (λ there. before found (entry_read_by i (get_or records i d) there (entries_by bytes (i + 1) (drop (i + 1) records)))) is

  pub entries_all : (found : List FatEntryView) (i : ℕ) → length records ≤ i
      → entries_by bytes 0 records ≡ before found (entries_by bytes i (drop i records)) → entries_by bytes 0 records ≡ Ok found
  entries_all found i past gathered =
      gathered ∙ ap (λ rs. before found (entries_by bytes i rs)) (drop_all i records past) ∙ before_all found

entries_before_is : (i : ℕ) (es : List FatEntryView) (rest : Result (List FatEntryView) UnfitFile) → entries_before i (Ok es) rest ≡ before es rest
entries_before_is i es (Ok more) = refl
entries_before_is i es (Err unfit) = refl

-- the entries of files, one of which was read
module _ (files : List (Bor (List ℕ))) where
  pub files_next : (found pushed es : List FatEntryView) (i : ℕ) (d : Bor (List ℕ)) → i < length files
      → entries_of_files 0 (texts_now files) ≡ before found (entries_of_files i (texts_now (drop i files)))
      → file_entries (get_or files i d).now ≡ Ok es → pushed ≡ found ++ es
      → entries_of_files 0 (texts_now files) ≡ before pushed (entries_of_files (i + 1) (texts_now (drop (i + 1) files)))
  files_next found pushed es i d inside gathered is more =
      let rest = entries_of_files (i + 1) (texts_now (drop (i + 1) files)) in
      gathered
      ∙ ap (before found) (at_drop_more (λ fs. entries_of_files i (texts_now fs)) files i d inside)
      ∙ ap (λ there. before found (entries_before i there rest)) is
      ∙ ap (before found) (entries_before_is i es rest)
      ∙ before_both found es rest
      ∙ ap (λ xs. before xs rest) (sym more)

  files_refused : (found : List FatEntryView) (i : ℕ) (d : Bor (List ℕ)) (why : Unfit) → i < length files
      → entries_of_files 0 (texts_now files) ≡ before found (entries_of_files i (texts_now (drop i files)))
      → file_entries (get_or files i d).now ≡ Err why → entries_of_files 0 (texts_now files) ≡ Err (record { file = i; why = why })
  files_refused found i d why inside gathered is =
      gathered
      ∙ ap (before found) (at_drop_more (λ fs. entries_of_files i (texts_now fs)) files i d inside)
      ∙ ap (λ there. before found (entries_before i there (entries_of_files (i + 1) (texts_now (drop (i + 1) files))))) is

  pub files_refuse : (found : List FatEntryView) (i : ℕ) (d : Bor (List ℕ)) (why : EntryRefusal) → i < length files
      → entries_of_files 0 (texts_now files) ≡ before found (entries_of_files i (texts_now (drop i files)))
      → RefusesAs why (file_entries (get_or files i d).now)
      → RefusesFiles (record { file = i; why = why }) (entries_of_files 0 (texts_now files))
  files_refuse found i d why inside gathered =
      refused_as (λ u. u) (unfit_file i) why (file_entries (get_or files i d).now) (entries_of_files 0 (texts_now files))
      (λ u is. files_refused found i d u inside gathered is)

  pub files_all : (found : List FatEntryView) (i : ℕ) → length files ≤ i
      → entries_of_files 0 (texts_now files) ≡ before found (entries_of_files i (texts_now (drop i files)))
      → entries_of_files 0 (texts_now files) ≡ Ok found
  files_all found i past gathered =
      gathered ∙ ap (λ fs. before found (entries_of_files i (texts_now fs))) (drop_all i files past) ∙ before_all found
