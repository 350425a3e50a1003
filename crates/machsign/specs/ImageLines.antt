-- The lines that the program prints of an image.
use Rattle.std.specs.Prelude.{◌≡◌, ◌↔◌, ℕ, List, Bool, true, false, IsTrue, Option, Some, None, Result, Ok, Err}
use Rattle.mach_base.specs.Answer.{◌>>=◌}
use Rattle.mach_base.specs.Fault.{Fault}
use Rattle.mach_load.specs.Command.{Command}
use Rattle.mach_parts.specs.Segment.{SegmentView}
use Rattle.goblin_mach.specs.Facts.{OfImage}
use Rattle.goblin_mach.specs.Image.{LossyOpens}
use Rattle.goblin_mach.specs.Subjects.{lossy_segments_in}
use Rattle.mach_signature.specs.AsSigned.{SignedImage, signature_in}
use Rattle.mach_signature.specs.SignedFacts.{HoldsAsSigned}
use Rattle.mach_signature.specs.SignedImages.{signature_place_in, plist_of}
use Rattle.machsign.specs.Signatures.{AreSignatureLines, is_cut, has_sound_parts}

-- the signature at a place, if there is one, with the bytes of its image
abbrev pub signed_there : List ℕ → Option (ℕ × ℕ) → (plist : Option (List ℕ)) → Result (Option SignedImage) Fault
signed_there bytes None plist = Ok None
signed_there bytes (Some place) plist =
    signature_in bytes place.0 place.1 >>= (λ s. Ok (Some (record { bytes = bytes; dataoff = place.0; signature = s; plist = plist })))

-- the signature of an image
abbrev pub image_signed : List ℕ → List Command → List SegmentView → Result (Option SignedImage) Fault
image_signed bytes cs segments = signed_there bytes (signature_place_in cs) (plist_of bytes segments)

-- The image at o of the bytes has these segments, and this signature, if it has one.
abbrev pub HasSigned : List ℕ → ℕ → List SegmentView → Result (Option SignedImage) Fault → Type 0
HasSigned bytes o segments there =
    OfImage bytes o (λ ctx cs. (segments ≡ lossy_segments_in ctx bytes cs) × (there ≡ image_signed bytes cs segments))

-- whether it has more blobs and faults than may be printed
abbrev pub is_there_cut : (left : ℕ) → Result (Option SignedImage) Fault → Bool
is_there_cut left (Ok (Some x)) = is_cut left x
is_there_cut left (Ok None) = false
is_there_cut left (Err f) = false

-- whether its entitlements in XML and in DER say the same, if it has both, and its requirements can be read
abbrev pub is_there_sound : Result (Option SignedImage) Fault → Bool
is_there_sound (Ok (Some x)) = has_sound_parts x
is_there_sound (Ok None) = true
is_there_sound (Err f) = true

-- The text is the lines of the signature of the image at the start of the bytes. It is whole exactly if the image is as it was
-- signed, all is printed, its entitlements in XML and in DER say the same, if it has both, and its requirements can be read.
pub record AreImageSignatureLines (limit left : ℕ) (bytes text : List ℕ) (whole : Bool) (rest : ℕ) : Type 0 where
  pub opens : LossyOpens bytes 0
  pub there : Result (Option SignedImage) Fault
  pub segments : List SegmentView
  pub has_signed : HasSigned bytes 0 segments there
  pub lines : AreSignatureLines limit left segments there text whole rest
  pub as_signed : IsTrue whole ↔ (HoldsAsSigned bytes 0 × (is_there_cut left there ≡ false) × (is_there_sound there ≡ true))
