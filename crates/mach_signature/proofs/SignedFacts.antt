-- The signature of an opened image is that of the bytes in which it was opened.
use Rattle.std.proofs.Common.{◌≡◌, ℕ, Bool, Ok, Err, sym}
use Rattle.std.specs.Prelude.{◌↔◌, IsTrue}
use Rattle.mach_base.specs.Fault.{Fault}
use Rattle.goblin_mach.specs.Modes.{HoldsAs, InBothModes}
use Rattle.goblin_mach.specs.OpenImage.{bytes_view, commands_view, segments_view}
use Rattle.goblin_mach.specs.declared.macho.MachO.{MachO}
use Rattle.goblin_mach.proofs.ImageFacts.{both_modes, facts_are, said_of}
use Rattle.mach_signature.proofs.AsSigned.{as_signed_said, refusal_said}
use Rattle.mach_signature.specs.SignedFacts.{HasSignature, HasCodeDirectory, HasSignatureFaults, HoldsAsSigned}
use Rattle.mach_signature.specs.SignedImages.{image_signature, image_directory, image_faults, is_as_signed, IsImageAsSigned}

module _ {A : Type 0} (m : MachO A) where
  pub signature_is : HoldsAs m HasSignature (image_signature (bytes_view m) (commands_view m))
  signature_is = said_of m (λ found f. found ≡ image_signature f.bytes f.commands)

  pub directory_is : HoldsAs m HasCodeDirectory (image_directory (bytes_view m) (commands_view m))
  directory_is = said_of m (λ found f. found ≡ image_directory f.bytes f.commands)

  pub faults_are : HoldsAs m HasSignatureFaults (image_faults (bytes_view m) (commands_view m) (segments_view m))
  faults_are = said_of m (λ found f. found ≡ image_faults f.bytes f.commands f.segments)

  -- so is whether the image is as it was signed
  pub as_signed_is : InBothModes m (λ bytes o. (is : Bool) → is_as_signed (image_faults (bytes_view m) (commands_view m) (segments_view m)) ≡ Ok is
      → IsTrue is ↔ HoldsAsSigned bytes o)
  as_signed_is =
      both_modes m _
      (λ bytes o p is said.
      let held = as_signed_said (bytes_view m) (commands_view m) (segments_view m) is said in
      let there = facts_are bytes o m p (λ f. IsImageAsSigned f.bytes f.commands f.segments) in
      ((λ is_so. there.1 (held.0 is_so)), (λ holds. held.1 (there.0 holds))))

  -- and the reason why that can't be decided
  pub refusal_is : InBothModes m (λ bytes o. (f : Fault) → is_as_signed (image_faults (bytes_view m) (commands_view m) (segments_view m)) ≡ Err f
      → HasSignatureFaults bytes o (Err f))
  refusal_is =
      both_modes m _
      (λ bytes o p f said.
      let there = facts_are bytes o m p (λ g. Err f ≡ image_faults g.bytes g.commands g.segments) in
      there.1 (sym (refusal_said (image_faults (bytes_view m) (commands_view m) (segments_view m)) f said)))
