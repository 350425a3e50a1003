-- The faults of the code that a directory covers.
use Rattle.std.specs.Prelude.{◌≡◌, ◌≤◌, ◌<◌, ◌⊎◌, ℕ, List, [], ◌∷◌, length, Bool, Option, Some, None, Result, Ok, Err, nat_lt, ◌==◌, if◌then◌else◌}
use Rattle.std.specs.Str.{bytes_eq}
use Rattle.mach_signature.specs.Directories.{Directory, code_limit_of, page_count_of, page_start, page_end, page_bytes, code_slot_of}
use Rattle.mach_signature.specs.Hashes.{hash_of}
use Rattle.mach_signature.specs.Numbered.{reported_of}
use Rattle.mach_signature.specs.declared.fault.CodeFault.{CodeFault}
use Rattle.mach_signature.specs.declared.fault.CodeFault.TheVariants.{Scattered, Limit, Slots, Page}

-- ---- the list of faults

-- the offset of the scatter vector, 0 if there is none
abbrev pub scatter_place : Option ℕ → ℕ
scatter_place None = 0
scatter_place (Some place) = place

-- the reason why the pages can't be judged
abbrev pub form_fault : Directory → List ℕ → Option CodeFault
form_fault d image =
    if scatter_place d.scatter_offset == 0 then
    (if nat_lt (length image) (code_limit_of d) then Some (Limit (code_limit_of d) (length image))
    else if d.head.n_code_slots == page_count_of d then None
    else Some (Slots d.head.n_code_slots (page_count_of d)))
    else Some (Scattered (scatter_place d.scatter_offset))

-- a page whose hash isn't the one that was signed
abbrev pub page_fault_by : Directory → List ℕ → ℕ → Option (List ℕ) → Option CodeFault
page_fault_by d image k None = None
page_fault_by d image k (Some slot) =
    if bytes_eq (hash_of d.hash (page_bytes d image k)) slot then None else Some (Page k (page_start d k) (page_end d k))

unfoldable pub page_fault : Directory → List ℕ → ℕ → Option CodeFault
page_fault d image k = page_fault_by d image k (code_slot_of d k)

abbrev pub pages_judged : Directory → List ℕ → Option CodeFault → List CodeFault
pages_judged d image None = reported_of (page_fault d image) d.head.n_code_slots
pages_judged d image (Some fault) = fault ∷ []

-- the reason why the pages can't be judged, or the pages that aren't as signed, in order
abbrev pub code_faults_of : Directory → List ℕ → List CodeFault
code_faults_of d image = pages_judged d image (form_fault d image)

-- ---- the promise

-- The image has all bytes that the directory covers, without a gap, and the hash of each page is its code slot.
pub record IsCodeAsSigned (d : Directory) (image : List ℕ) : Type 0 where
  pub not_scattered : scatter_place d.scatter_offset ≡ 0
  pub in_image : code_limit_of d ≤ length image
  pub slot_each : d.head.n_code_slots ≡ page_count_of d
  pub pages : (k : ℕ) → k < page_count_of d → code_slot_of d k ≡ Some (hash_of d.hash (page_bytes d image k))
