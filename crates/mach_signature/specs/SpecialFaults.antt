-- The faults of the special slots of a directory, and of blobs that no slot seals (`cs_blobs.h`).
use Rattle.std.specs.Prelude.{◌≡◌, ◌≤◌, ◌<◌, ◌⊎◌, ℕ, ◌+◌, List, [], ◌++◌, Bool, Option, Some, None, Result, Ok, Err, nat_lt, nat_le}
use Rattle.std.specs.Prelude.{◌==◌, ◌&&◌, if◌then◌else◌, IsTrue}
use Rattle.std.specs.List.{list_all}
use Rattle.std.specs.Str.{bytes_eq}
use Rattle.mach_base.specs.Answer.{◌>>=◌}
use Rattle.mach_base.specs.Fault.{Fault}
use Rattle.mach_base.specs.Text.{is_zero}
use Rattle.mach_signature.specs.Directories.{Directory, special_slot_of}
use Rattle.mach_signature.specs.Hashes.{hash_of}
use Rattle.mach_signature.specs.Numbered.{reported_of}
use Rattle.mach_signature.specs.Slots.{is_outside}
use Rattle.mach_signature.specs.SuperBlob.{SuperBlob, BlobThere, slot_at, blob_of}
use Rattle.mach_signature.specs.declared.fault.SpecialFault.{SpecialFault}
use Rattle.mach_signature.specs.declared.fault.SpecialFault.TheVariants.{Unknown, Unsealed, Changed, Absent}

-- ---- what a special slot seals

-- the blob, or for slot 1 without one the section of the image
abbrev pub blob_or_section : Option (List ℕ) → ℕ → Option BlobThere → Option (List ℕ)
blob_or_section plist k (Some blob) = Some blob.bytes
blob_or_section plist k None = if k == 1 then plist else None

-- what slot k seals in the image: the first blob of the slot with its head, or for slot 1 without a blob the section
unfoldable pub component_of : SuperBlob → Option (List ℕ) → ℕ → Result (Option (List ℕ)) Fault
component_of s plist k = blob_of s k >>= (λ blob. Ok (blob_or_section plist k blob))

-- a slot of zeros seals nothing
abbrev pub is_unsealing : List ℕ → Bool
is_unsealing slot = list_all is_zero slot

-- ---- the list of faults

-- what is there compared with its slot; what can't be read is reported as a fault of the blob
abbrev pub sealed_fault : Directory → ℕ → List ℕ → Result (Option (List ℕ)) Fault → Option SpecialFault
sealed_fault d k slot (Err f) = None
sealed_fault d k slot (Ok (Some bytes)) =
    if is_unsealing slot then Some (Unsealed k) else if bytes_eq (hash_of d.hash bytes) slot then None else Some (Changed k)
sealed_fault d k slot (Ok None) = if is_unsealing slot then None else if is_outside k then None else Some (Absent k)

-- the fault of a slot; slots above 11 aren't known
abbrev pub special_fault_by : Directory → SuperBlob → Option (List ℕ) → ℕ → Option (List ℕ) → Option SpecialFault
special_fault_by d s plist k None = None
special_fault_by d s plist k (Some slot) =
    if nat_lt 11 k then (if is_unsealing slot then None else Some (Unknown k)) else sealed_fault d k slot (component_of s plist k)

unfoldable pub special_fault : Directory → SuperBlob → Option (List ℕ) → ℕ → Option SpecialFault
special_fault d s plist k = special_fault_by d s plist k (special_slot_of d k)

-- a blob whose slot isn't known, or has no hash in the directory
abbrev pub unsealed_entry : Directory → ℕ → Option SpecialFault
unsealed_entry d slot =
    if nat_le 12 slot && nat_le slot 0xfff then Some (Unknown slot)
    else if nat_le 1 slot && nat_le slot 11 && nat_lt d.head.n_special_slots slot then Some (Unsealed slot)
    else None

-- the faults of the slots, from 1 on, then those of the blobs, in the order of the index
abbrev pub special_faults_of : Directory → SuperBlob → Option (List ℕ) → List SpecialFault
special_faults_of d s plist =
    reported_of (λ k. special_fault d s plist (k + 1)) d.head.n_special_slots ++ reported_of (λ k. unsealed_entry d (slot_at s k)) s.count

-- ---- the promise

-- the slot seals what is there; if nothing is there, nothing was signed, or it may lie outside of the image
abbrev pub IsSealed : Directory → ℕ → List ℕ → Result (Option (List ℕ)) Fault → Type 0
IsSealed d k slot (Err f) = Unit {0}
IsSealed d k slot (Ok (Some bytes)) = (IsTrue (is_unsealing slot) → ⊥) × (slot ≡ hash_of d.hash bytes)
IsSealed d k slot (Ok None) = IsTrue (is_unsealing slot) ⊎ IsTrue (is_outside k)

-- Each known special slot seals what is there, the others seal nothing, and each blob of a sealed slot has its hash.
pub record IsSpecialAsSigned (d : Directory) (s : SuperBlob) (plist : Option (List ℕ)) : Type 0 where
  pub known : (k : ℕ) (slot : List ℕ) → special_slot_of d k ≡ Some slot → k ≤ 11 → IsSealed d k slot (component_of s plist k)
  pub unknown : (k : ℕ) (slot : List ℕ) → special_slot_of d k ≡ Some slot → 11 < k → IsTrue (is_unsealing slot)
  pub blobs_known : (k : ℕ) → k < s.count → 12 ≤ slot_at s k → slot_at s k ≤ 0xfff → ⊥
  pub blobs_sealed : (k : ℕ) → k < s.count → 1 ≤ slot_at s k → slot_at s k ≤ 11 → slot_at s k ≤ d.head.n_special_slots
