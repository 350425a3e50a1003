-- What `machfat list` shows of a file: the records of a fat file, or the cpu of one image.
use Rattle.std.specs.Prelude.{ℕ, List, length, nat_lt, Bool, true, not, Result, Ok, Err}
use Rattle.mach_base.specs.Fault.{Fault}
use Rattle.mach_fat_writer.specs.Changes.{fat_records_in}
use Rattle.mach_fat_writer.specs.CreatedEntries.{created_entry}
use Rattle.mach_fat_writer.specs.Entries.{FatEntryView}
use Rattle.mach_fat_writer.specs.Unfit.{Unfit, not_fat}
use Rattle.mach_fat_writer.specs.declared.entry_record.EntryRecord.{EntryRecord}
use Rattle.machfat.specs.declared.listed.Listed.{Listed}
use Rattle.machfat.specs.declared.listed.Listed.TheVariants.{Records, Image}

-- a fat file has records; one image has a cpu
pub data ListedFile : Type 0 where
  a_fat_file : List EntryRecord → ListedFile
  one_image : (cputype cpusubtype : ℕ) → ListedFile

abbrev pub listed_view : {A : Type 0} → Listed A → ListedFile
listed_view (Records records) = a_fat_file records.items
listed_view (Image cputype cpusubtype) = one_image cputype cpusubtype

-- the cpu of an image, which is that of the entry that the file becomes; a header that is cut has none
abbrev pub image_or_none : Result FatEntryView Fault → Result ListedFile Unfit
image_or_none (Ok e) = Ok (one_image e.cputype e.cpusubtype)
image_or_none (Err f) = Err not_fat

abbrev pub listed_file_by : List ℕ → Result (List EntryRecord) Unfit → Result ListedFile Unfit
listed_file_by bytes (Ok records) = Ok (a_fat_file records)
listed_file_by bytes (Err not_fat) = image_or_none (created_entry bytes)
listed_file_by bytes (Err why) = Err why

-- What is shown of a file, or why nothing is.
abbrev pub listed_file_in : List ℕ → Result ListedFile Unfit
listed_file_in bytes = listed_file_by bytes (fat_records_in bytes)

-- whether it has no more records than a limit
abbrev pub has_at_most : (limit : ℕ) → ListedFile → Bool
has_at_most limit (a_fat_file records) = not (nat_lt limit (length records))
has_at_most limit (one_image cputype cpusubtype) = true
