-- The lines of the members of an archive, or of those that are the entries of a fat file.
use Rattle.std.specs.Prelude.{◌≡◌, ◌&&◌, ℕ, List, [], ◌∷◌, ◌++◌, codes, length, Bool, true, false, Some, None, Ok, Err}
use Rattle.std.specs.Fmt.{decimal}
use Rattle.mach_archive.specs.Archives.{ArchiveView, archive_in}
use Rattle.mach_base.specs.Fault.{Fault, fault_of}
use Rattle.mach_base.specs.declared.error.Error.{Error}
use Rattle.mach_fat_writer.specs.EntriesRead.{slice_of}
use Rattle.mach_fat_writer.specs.FatForms.{FatForm}
use Rattle.mach_fat_writer.specs.FatTables.{form_in, fat_table_in}
use Rattle.mach_fat_writer.specs.declared.entry_record.EntryRecord.{EntryRecord}
use Rattle.mach_fat_writer.specs.declared.refusal.EntryRefusal.TheVariants.{OutOfFile}
use Rattle.mach_parts.specs.Magic.{magic_at}
use Rattle.mach_cli.specs.declared.image_view.Outcome.{Outcome}
use Rattle.machfat.specs.ArchiveLines.{AreArchiveLines}
use Rattle.goblin_mach.specs.FirstBytes.{is_image_magic}
use Rattle.machfat.specs.Names.{refused_line}
use Rattle.machfat.specs.Outside.{refused_entries, refused_entries_words}

-- the outcome if no line of a list is printed: whether it is whole
abbrev pub stays : (left : ℕ) → (whole : Bool) → Outcome
stays left whole = record { whole = whole; left = left }

-- the line of entry i, if it isn't in the file
abbrev pub out_of_file_line : List ℕ → ℕ → List ℕ
out_of_file_line bytes i = codes "refused: " ++ (refused_entries_words (refused_entries bytes (OutOfFile i)) ++ codes "\n")

-- The text of the entry of record i: it isn't in the file; it is an image; it is no archive, for this error; or it is an archive,
-- with its lines, no more than `left`.
pub data AreContentLines (limit left : ℕ) (bytes : List ℕ) (i : ℕ) (r : EntryRecord) : List ℕ → Outcome → Type 0 where
  out_of_the_file : slice_of bytes r ≡ None → AreContentLines limit left bytes i r (out_of_file_line bytes i) (stays left false)
  an_image : (slice : List ℕ) → slice_of bytes r ≡ Some slice → is_image_magic (magic_at slice 0) ≡ true
      → AreContentLines limit left bytes i r (codes "image\n") (stays left true)
  no_archive : (slice : List ℕ) (e : Error) → slice_of bytes r ≡ Some slice → is_image_magic (magic_at slice 0) ≡ false
      → archive_in slice ≡ Err (fault_of e) → AreContentLines limit left bytes i r (refused_line (codes "refused") e) (stays left false)
  an_archive : (slice text : List ℕ) (a : ArchiveView) (o : Outcome) → slice_of bytes r ≡ Some slice → is_image_magic (magic_at slice 0) ≡ false
      → archive_in slice ≡ Ok a → AreArchiveLines limit left a text o → AreContentLines limit left bytes i r text o

-- the line before it
abbrev pub entry_line : ℕ → List ℕ
entry_line i = codes "arch " ++ (decimal i ++ codes "\n")

-- The text is that of the entries of the first records, in order, each after its line. It is whole if that of each entry is. An
-- entry has no more lines than those before it left of the limit.
pub data AreEntryLines (limit : ℕ) (bytes : List ℕ) : List EntryRecord → List ℕ → Outcome → Type 0 where
  no_entries : AreEntryLines limit bytes [] [] (stays limit true)
  one_more : (records : List EntryRecord) (r : EntryRecord) (front last : List ℕ) (before one : Outcome) → AreEntryLines limit bytes records front before
      → AreContentLines limit before.left bytes (length records) r last one
      → AreEntryLines limit bytes (records ++ r ∷ []) (front ++ (entry_line (length records) ++ last)) (stays one.left (before.whole && one.whole))

-- The text is that of a file, no more than `limit` lines of members and symbols: of all entries of a fat file of either form, or
-- of an archive.
pub data AreFileLines (limit : ℕ) (bytes : List ℕ) : List ℕ → Bool → Type 0 where
  of_fat_file : (form : FatForm) (records : List EntryRecord) (text : List ℕ) (o : Outcome) → form_in bytes ≡ Some form
      → fat_table_in form bytes ≡ Ok records → AreEntryLines limit bytes records text o → AreFileLines limit bytes text o.whole
  of_archive : (a : ArchiveView) (text : List ℕ) (o : Outcome) → form_in bytes ≡ None → archive_in bytes ≡ Ok a
      → AreArchiveLines limit limit a text o → AreFileLines limit bytes text o.whole

-- a fault of reading the members of a file: of the table of a fat file, or of the start of an archive
pub data MembersFault (bytes : List ℕ) : Fault → Type 0 where
  in_table : (form : FatForm) (f : Fault) → form_in bytes ≡ Some form → fat_table_in form bytes ≡ Err f → MembersFault bytes f
  in_archive : (f : Fault) → form_in bytes ≡ None → archive_in bytes ≡ Err f → MembersFault bytes f
