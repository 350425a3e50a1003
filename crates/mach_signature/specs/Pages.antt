-- The pages that faults are about: which of them are shown, and the segment and the section that each is in.
use Rattle.std.specs.Prelude.{◌==◌, ◌&&◌, ◌+◌, ◌-◌, ℕ, List, length, find, filter, min, max, nat_lt, Bool, false, not, slice_get}
use Rattle.std.specs.Prelude.{Option, Some, None, Result, Ok, Err}
use Rattle.std.specs.List.{range_with_len}
use Rattle.std.specs.Option.{is_some}
use Rattle.std.specs.Result.{result_ok}
use Rattle.std.specs.Str.{bytes_eq}
use Rattle.mach_base.specs.Fault.{Fault}
use Rattle.mach_base.specs.Number.{slice_at}
use Rattle.mach_parts.specs.Section.{is_zero_fill}
use Rattle.mach_parts.specs.SectionRecord.{numbered_section}
use Rattle.mach_parts.specs.Segment.{SegmentView}
use Rattle.mach_parts.specs.declared.segment.numbered.NumberedSection.{NumberedSection}
use Rattle.mach_signature.specs.AsSigned.{SignedImage, SignatureFaultView, DirectoryFaultView, signature_faults_of}
use Rattle.mach_signature.specs.AsSigned as views
use Rattle.mach_signature.specs.CodeFaults.{form_fault}
use Rattle.mach_signature.specs.Directories.{Directory, code_slot_of, directory_at, page_end, page_start}
use Rattle.mach_signature.specs.Hashes.{hash_of}
use Rattle.mach_signature.specs.SuperBlob.{SuperBlob, BlobThere, blob_of}
use Rattle.mach_signature.specs.declared.fault.CodeFault.{CodeFault}
use Rattle.mach_signature.specs.declared.fault.CodeFault.TheVariants as code
use Rattle.mach_signature.specs.declared.page.ChangedPage.{ChangedPage}
use Rattle.mach_signature.specs.declared.page.Place.{Place}

-- ---- the page of a fault, if it is about one; `slot` is that of the directory

abbrev pub page_of_code : (slot : ℕ) → CodeFault → Option ChangedPage
page_of_code slot (code.Scattered place) = None
page_of_code slot (code.Limit limit len) = None
page_of_code slot (code.Slots slots pages) = None
page_of_code slot (code.Page index start end) = Some (record { slot = slot; index = index; start = start; end = end })

abbrev pub page_of_directory : (slot : ℕ) → DirectoryFaultView → Option ChangedPage
page_of_directory slot (views.identifier_refused f) = None
page_of_directory slot (views.team_refused f) = None
page_of_directory slot (views.short limit dataoff) = None
page_of_directory slot (views.of_code fault) = page_of_code slot fault
page_of_directory slot (views.of_special fault) = None

abbrev pub page_in_fault : SignatureFaultView → Option ChangedPage
page_in_fault (views.blob_refused index f) = None
page_in_fault (views.wrong_magic index slot magic) = None
page_in_fault (views.directory_refused f) = None
page_in_fault (views.of_first fault) = page_of_directory 0 fault
page_in_fault (views.of_alternate slot fault) = page_of_directory slot fault

-- ---- a changed page is shown once, if the first directory reports it

-- the first blob of slot 0 as a directory, if it can be read
abbrev pub directory_if_any : Result (Option BlobThere) Fault → Option Directory
directory_if_any (Ok (Some blob)) = result_ok (directory_at blob.bytes)
directory_if_any (Ok None) = None
directory_if_any (Err f) = None

abbrev pub first_directory : SuperBlob → Option Directory
first_directory s = directory_if_any (blob_of s 0)

-- whether the pages of a directory can be judged
abbrev pub are_judged : Directory → List ℕ → Bool
are_judged d image = not (is_some (form_fault d image))

-- whether the page of this number is at this place
abbrev pub is_at : Directory → ChangedPage → Bool
is_at d page = page_start d page.index == page.start && page_end d page.index == page.end

-- whether the bytes of a page are there, and their hash isn't the one in its slot
abbrev pub is_other_hash : Directory → Option (List ℕ) → Result (List ℕ) Fault → Bool
is_other_hash d None bytes = false
is_other_hash d (Some slot) (Ok bytes) = not (bytes_eq (hash_of d.hash bytes) slot)
is_other_hash d (Some slot) (Err f) = false

abbrev pub is_unlike : Directory → List ℕ → ChangedPage → Bool
is_unlike d image page = is_other_hash d (code_slot_of d page.index) (slice_at (page.end - page.start) image page.start)

-- whether a directory reports a page
abbrev pub reports_page : List ℕ → Directory → ChangedPage → Bool
reports_page image d page = are_judged d image && (is_at d page && is_unlike d image page)

-- whether an alternate directory's page is one that the first directory reports
abbrev pub is_repeated : List ℕ → Option Directory → Option ChangedPage → Bool
is_repeated image None page = false
is_repeated image (Some first) None = false
is_repeated image (Some first) (Some page) = not (page.slot == 0) && reports_page image first page

abbrev pub is_shown : SignedImage → SignatureFaultView → Bool
is_shown x fault = not (is_repeated x.bytes (first_directory x.signature) (page_in_fault fault))

-- all faults but repeated pages
abbrev pub shown_faults : SignedImage → List SignatureFaultView
shown_faults x = filter (is_shown x) (signature_faults_of x)

-- ---- the place of a page

-- whether `size` bytes at an offset of the file have a byte of the page
abbrev pub meets : ChangedPage → (offset size : ℕ) → Bool
meets page offset size = nat_lt (max page.start offset) (min page.end (offset + size))

abbrev pub segment_meets : ChangedPage → Option SegmentView → Bool
segment_meets page None = false
segment_meets page (Some s) = meets page s.command.fileoff s.command.filesize

-- a section of zeros has no part in the file
abbrev pub section_meets : ChangedPage → Result NumberedSection Fault → Bool
section_meets page (Ok n) = not (is_zero_fill n.section.flags) && meets page n.section.offset n.section.size
section_meets page (Err f) = false

-- An image has at most 255 sections (`mach-o/nlist.h`, MAX_SECT). So the first 255 segments are looked at, and the first 255 sections of one.
abbrev pub most_looked_at : ℕ
most_looked_at = 255

-- the number of the first segment that has a byte of the page
abbrev pub segment_number : List SegmentView → ChangedPage → Option ℕ
segment_number segments page = find (λ k. segment_meets page (slice_get segments k)) (range_with_len 0 (min (length segments) most_looked_at))

-- the number of the first of its sections that has one
abbrev pub page_section_number : SegmentView → ChangedPage → Option ℕ
page_section_number s page = find (λ k. section_meets page (numbered_section 0 s k)) (range_with_len 0 (min s.command.nsects most_looked_at))

abbrev pub section_name : Result NumberedSection Fault → Option (List ℕ)
section_name (Ok n) = Some n.section.sectname
section_name (Err f) = None

abbrev pub section_name_at : SegmentView → Option ℕ → Option (List ℕ)
section_name_at s None = None
section_name_at s (Some k) = section_name (numbered_section 0 s k)

abbrev pub no_place : Place
no_place = record { segment = None; section = None }

abbrev pub place_in_segment : ChangedPage → Option SegmentView → Place
place_in_segment page None = no_place
place_in_segment page (Some s) = record { segment = Some s.command.segname; section = section_name_at s (page_section_number s page) }

abbrev pub segment_if_any : List SegmentView → Option ℕ → Option SegmentView
segment_if_any segments None = None
segment_if_any segments (Some k) = slice_get segments k

-- the names of that segment and of that section, if there are such
abbrev pub place_of : List SegmentView → Option ChangedPage → Place
place_of segments None = no_place
place_of segments (Some page) = place_in_segment page (segment_if_any segments (segment_number segments page))
