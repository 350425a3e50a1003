-- The signature that an image holds is that of the bytes in which it was opened; so is whether the image is as it was signed.
use Rattle.std.proofs.Common.{◌≡◌, ◌∙◌, ℕ, List, Bool, true, false, Option, Result, refl, sym}
use Rattle.std.specs.Prelude.{◌↔◌, IsTrue}
use Rattle.mach_base.specs.Fault.{Fault}
use Rattle.goblin_mach.specs.OpenImage.{IsLossyImage, bytes_view, commands_view, segments_view}
use Rattle.goblin_mach.specs.declared.macho.MachO.{MachO}
use Rattle.goblin_mach.proofs.ImageFacts.{facts_are}
use Rattle.mach_signature.specs.AsSigned.{SignedImage}
use Rattle.mach_signature.specs.SignedImages.{image_signature, signature_place_in, IsImageAsSigned}
use Rattle.mach_signature.proofs.AsSigned.{as_signed}
use Rattle.mach_signature.specs.SignedFacts.{HoldsAsSigned}
use Rattle.machsign.specs.Entitlements.{entitlements_of, HasEntitlements}
use Rattle.machsign.specs.ImageLines.{image_signed, is_there_cut, is_there_sound, HasSigned}
use Rattle.machsign.proofs.Whole.{faults_are_by, is_unfaulted, is_all_reported, and_not, unfaulted_unreported, unreported_unfaulted}

module _ {A : Type 0} (m : MachO A) (bytes : List ℕ) (p : IsLossyImage bytes 0 m) where
  abbrev pub held : Result (Option SignedImage) Fault
  held = image_signed (bytes_view m) (commands_view m) (segments_view m)

  pub signed_is : HasSigned bytes 0 (segments_view m) held
  signed_is =
      (facts_are bytes 0 m p
      (λ f. (segments_view m ≡ f.segments) × (held ≡ image_signed f.bytes f.commands (segments_view m)))).1 (refl, refl)

  -- the same holds of its entitlements
  pub entitlements_are : (found : Option (List ℕ)) → found ≡ entitlements_of (image_signature (bytes_view m) (commands_view m))
      → HasEntitlements bytes 0 found
  entitlements_are found is = (facts_are bytes 0 m p (λ f. found ≡ entitlements_of (image_signature f.bytes f.commands))).1 is

  abbrev held_as_signed : HoldsAsSigned bytes 0 ↔ IsImageAsSigned (bytes_view m) (commands_view m) (segments_view m)
  held_as_signed = facts_are bytes 0 m p (λ f. IsImageAsSigned f.bytes f.commands f.segments)

  -- its text is whole exactly if it is as it was signed, and all is printed
  pub whole_as_signed : (left : ℕ) (whole : Bool) → whole ≡ is_all_reported left held
      → IsTrue whole ↔ (HoldsAsSigned bytes 0 × (is_there_cut left held ≡ false) × (is_there_sound held ≡ true))
  whole_as_signed left whole same =
      let faults = faults_are_by (bytes_view m) (segments_view m) (signature_place_in (commands_view m)) in
      let signed = as_signed (bytes_view m) (commands_view m) (segments_view m) in
      let parts = and_not (is_unfaulted held) (is_there_cut left held) (is_there_sound held) in (
        (λ h. let is = parts.0 (sym same ∙ h) in (held_as_signed.1 (signed.0 (faults ∙ unfaulted_unreported held is.0)), is.1, is.2)),
        (λ h. same ∙ parts.1 (unreported_unfaulted held (sym faults ∙ signed.1 (held_as_signed.0 h.0)), h.1, h.2)),
      )
