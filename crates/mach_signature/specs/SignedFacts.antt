-- What the bytes say about the signature of the image that opens at a place.
use Rattle.std.specs.Prelude.{◌≡◌, ℕ, List, Option, Result}
use Rattle.mach_base.specs.Fault.{Fault}
use Rattle.goblin_mach.specs.Facts.{OfImage}
use Rattle.goblin_mach.specs.Subjects.{lossy_segments_in}
use Rattle.mach_signature.specs.AsSigned.{SignatureFaultView}
use Rattle.mach_signature.specs.Directories.{Directory}
use Rattle.mach_signature.specs.SuperBlob.{SuperBlob}
use Rattle.mach_signature.specs.SignedImages.{image_signature, image_directory, image_faults, IsImageAsSigned}

-- its signature, if it has one, or why it can't be read
abbrev pub HasSignature : List ℕ → ℕ → Result (Option SuperBlob) Fault → Type 0
HasSignature bytes o found = OfImage bytes o (λ ctx cs. found ≡ image_signature bytes cs)

-- the code directory that counts, if the image has a signature, or why there is none
abbrev pub HasCodeDirectory : List ℕ → ℕ → Result (Option Directory) Fault → Type 0
HasCodeDirectory bytes o found = OfImage bytes o (λ ctx cs. found ≡ image_directory bytes cs)

-- the faults of its signature
abbrev pub HasSignatureFaults : List ℕ → ℕ → Result (Option (List SignatureFaultView)) Fault → Type 0
HasSignatureFaults bytes o found = OfImage bytes o (λ ctx cs. found ≡ image_faults bytes cs (lossy_segments_in ctx bytes cs))

-- the image is as it was signed
abbrev pub HoldsAsSigned : List ℕ → ℕ → Type 0
HoldsAsSigned bytes o = OfImage bytes o (λ ctx cs. IsImageAsSigned bytes cs (lossy_segments_in ctx bytes cs))
