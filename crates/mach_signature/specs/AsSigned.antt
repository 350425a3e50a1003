-- The faults of a signature, and the promise that everything is as signed.
use Rattle.std.specs.Prelude.{◌≡◌, ◌≤◌, ◌<◌, ℕ, List, [], ◌∷◌, ◌++◌, map, flat_map, length, take, option_to_list, Option, Some, None, Result, Ok, Err}
use Rattle.std.specs.Prelude.{nat_lt, ◌==◌}
use Rattle.std.specs.Prelude.{if◌then◌else◌, IsTrue, IsOk}
use Rattle.mach_base.specs.Among.{IsAmong}
use Rattle.mach_base.specs.Answer.{◌>>=◌}
use Rattle.mach_base.specs.Fault.{Fault}
use Rattle.mach_base.specs.Number.{slice_at}
use Rattle.mach_signature.specs.Chosen.{SlotDirectory, directory_of, directories_of}
use Rattle.mach_signature.specs.CodeFaults.{code_faults_of, scatter_place, IsCodeAsSigned}
use Rattle.mach_signature.specs.Directories.{Directory, code_limit_of, identifier_of, team_of}
use Rattle.mach_signature.specs.Numbered.{reported_of}
use Rattle.mach_signature.specs.Slots.{has_magic}
use Rattle.mach_signature.specs.SpecialFaults.{special_faults_of, IsSpecialAsSigned}
use Rattle.mach_signature.specs.SuperBlob.{SuperBlob, BlobThere, blob_at, signature_at}
use Rattle.mach_signature.specs.declared.fault.CodeFault.{CodeFault}
use Rattle.mach_signature.specs.declared.fault.SpecialFault.{SpecialFault}

-- an image: its bytes, where its signature begins, the signature, and the section `__info_plist` of `__TEXT`, if it has one
pub record SignedImage : Type 0 where
  pub bytes : List ℕ
  pub dataoff : ℕ
  pub signature : SuperBlob
  pub plist : Option (List ℕ)

-- the bytes of the command's range; none if it is empty
abbrev pub signature_bytes : List ℕ → (dataoff datasize : ℕ) → Result (List ℕ) Fault
signature_bytes image dataoff datasize = if datasize == 0 then Ok [] else slice_at datasize image dataoff

-- the signature at the place that a command gives (`mach-o/loader.h`, struct linkedit_data_command of LC_CODE_SIGNATURE)
unfoldable pub signature_in : List ℕ → (dataoff datasize : ℕ) → Result SuperBlob Fault
signature_in image dataoff datasize = signature_bytes image dataoff datasize >>= signature_at

-- ---- the list of faults; errors appear as the faults that they report

pub data DirectoryFaultView : Type 0 where
  identifier_refused : Fault → DirectoryFaultView
  team_refused : Fault → DirectoryFaultView
  short : (limit dataoff : ℕ) → DirectoryFaultView
  of_code : CodeFault → DirectoryFaultView
  of_special : SpecialFault → DirectoryFaultView

pub data SignatureFaultView : Type 0 where
  blob_refused : (index : ℕ) → Fault → SignatureFaultView
  wrong_magic : (index slot magic : ℕ) → SignatureFaultView
  directory_refused : Fault → SignatureFaultView
  of_first : DirectoryFaultView → SignatureFaultView
  of_alternate : (slot : ℕ) → DirectoryFaultView → SignatureFaultView

-- a blob that can't be read, or whose magic isn't one of its slot
abbrev pub blob_fault_by : ℕ → Result BlobThere Fault → Option SignatureFaultView
blob_fault_by k (Err f) = Some (blob_refused k f)
blob_fault_by k (Ok blob) = if has_magic blob.slot blob.magic then None else Some (wrong_magic k blob.slot blob.magic)

unfoldable pub blob_fault : SuperBlob → ℕ → Option SignatureFaultView
blob_fault s k = blob_fault_by k (blob_at s k)

-- the reason why something can't be read, if it can't
abbrev pub refusal_of : {A : Type 0} → Result A Fault → Option Fault
refusal_of (Ok x) = None
refusal_of (Err f) = Some f

-- the signature begins before the end of the bytes that it should cover: fewer are covered than lie before it
abbrev pub short_fault : SignedImage → Directory → Option DirectoryFaultView
short_fault x d =
    if nat_lt (code_limit_of d) x.dataoff then (if scatter_place d.scatter_offset == 0 then Some (short (code_limit_of d) x.dataoff) else None)
    else None

-- the faults of a directory: of its names, of what it leaves out, of its code, and of its special slots
unfoldable pub directory_faults_of : SignedImage → Directory → List DirectoryFaultView
directory_faults_of x d =
    map identifier_refused (option_to_list (refusal_of (identifier_of d)))
    ++ (map team_refused (option_to_list (refusal_of (team_of d)))
    ++ (option_to_list (short_fault x d)
    ++ (map of_code (code_faults_of d x.bytes)
    ++ map of_special (special_faults_of d x.signature x.plist))))

-- a fault of a directory, with the slot if it is an alternate one
abbrev pub of_slot : ℕ → DirectoryFaultView → SignatureFaultView
of_slot slot fault = if slot == 0 then of_first fault else of_alternate slot fault

abbrev pub slot_faults_of : SignedImage → SlotDirectory → List SignatureFaultView
slot_faults_of x (slot, Ok d) = map (of_slot slot) (directory_faults_of x d)
slot_faults_of x (slot, Err f) = []

-- the faults of each directory, in the order of the index; if none counts, that alone
abbrev pub judged_faults : SignedImage → Result Directory Fault → List SignatureFaultView
judged_faults x (Ok d) = flat_map (slot_faults_of x) (directories_of x.signature)
judged_faults x (Err f) = directory_refused f ∷ []

-- all faults: those of the blobs, then those of the directories
abbrev pub signature_faults_of : SignedImage → List SignatureFaultView
signature_faults_of x = reported_of (blob_fault x.signature) x.signature.count ++ judged_faults x (directory_of x.signature)

-- the faults of the signature that a command places
abbrev pub faults_in : List ℕ → (dataoff datasize : ℕ) → Option (List ℕ) → Result (List SignatureFaultView) Fault
faults_in image dataoff datasize plist = signature_in image dataoff datasize
    >>= (λ s. Ok (signature_faults_of (record { bytes = image; dataoff = dataoff; signature = s; plist = plist })))

-- ---- the promise

-- The directory can be read and covers all bytes before the signature; the code and all that the special slots seal are as it says.
pub record IsDirectoryAsSigned (x : SignedImage) (d : Directory) : Type 0 where
  pub identifier : IsOk (identifier_of d)
  pub team : IsOk (team_of d)
  pub covers : x.dataoff ≤ code_limit_of d
  pub code : IsCodeAsSigned d x.bytes
  pub special : IsSpecialAsSigned d x.signature x.plist

-- the signature has the directory at a slot
abbrev pub HasDirectory : SuperBlob → ℕ → Directory → Type 0
HasDirectory s slot d = IsAmong (slot, Ok d) (directories_of s)

-- Each blob can be read and has a magic of its slot, a directory counts, and each of the directories, at most four, is as signed.
pub record IsAsSigned (x : SignedImage) : Type 0 where
  pub blobs : (k : ℕ) → k < x.signature.count → (blob : BlobThere) × (blob_at x.signature k ≡ Ok blob) × IsTrue (has_magic blob.slot blob.magic)
  pub counts : IsOk (directory_of x.signature)
  pub directories : (slot : ℕ) (d : Directory) → HasDirectory x.signature slot d → IsDirectoryAsSigned x d
