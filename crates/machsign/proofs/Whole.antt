-- The lines of a signature are whole exactly if there is one, it has no fault, and all is printed; the same holds of its object.
use Rattle.std.proofs.Common.{◌≡◌, ◌∷◌, [], ℕ, List, Bool, true, false, Option, Some, None, Result, Ok, Err, refl, ap}
use Rattle.std.specs.Prelude.{◌↔◌, ◌&&◌, not, IsTrue}
use Rattle.mach_base.specs.Answer.{◌>>=◌}
use Rattle.mach_base.specs.Fault.{Fault}
use Rattle.mach_parts.specs.Segment.{SegmentView}
use Rattle.mach_signature.specs.AsSigned.{SignedImage, SignatureFaultView, signature_faults_of, signature_in}
use Rattle.mach_signature.specs.SuperBlob.{SuperBlob}
use Rattle.mach_signature.specs.SignedImages.{plist_of, faults_there}
use Rattle.machsign.specs.Faults.{has_none}
use Rattle.machsign.specs.ImageLines.{is_there_cut, is_there_sound, signed_there}
use Rattle.machsign.specs.JsonSignature.{IsSignatureObject, unsigned_object, unreadable_object, signed_object}
use Rattle.machsign.specs.Signatures.{AreSignatureLines, unsigned, unreadable, signed}

-- the faults of a signature, if one is there
abbrev pub faults_by : Result (Option SignedImage) Fault → Result (Option (List SignatureFaultView)) Fault
faults_by (Ok None) = Ok None
faults_by (Ok (Some x)) = Ok (Some (signature_faults_of x))
faults_by (Err f) = Err f

module _ (bytes : List ℕ) (segments : List SegmentView) where
  faults_read : (place : ℕ × ℕ) (s : Result SuperBlob Fault)
      → (s >>= (λ s. Ok (signature_faults_of (record { bytes = bytes; dataoff = place.0; signature = s; plist = plist_of bytes segments }))))
      >>= (λ faults. Ok (Some faults))
      ≡ faults_by (s >>= (λ s. Ok (Some (record { bytes = bytes; dataoff = place.0; signature = s; plist = plist_of bytes segments }))))
  faults_read place (Ok s) = refl
  faults_read place (Err f) = refl

  -- they are the faults that the image has
  pub faults_are_by : (place : Option (ℕ × ℕ)) → faults_there bytes place segments ≡ faults_by (signed_there bytes place (plist_of bytes segments))
  faults_are_by None = refl
  faults_are_by (Some place) = faults_read place (signature_in bytes place.0 place.1)

none_of : {A : Type 0} (xs : List A) → IsTrue (has_none xs) → xs ≡ []
none_of [] h = refl
none_of (x ∷ xs) h = absurd (cc)

empty_there : {A : Type 0} (xs : List A) → ◌≡◌ {A = Result (Option (List A)) Fault} (Ok (Some xs)) (Ok (Some [])) → xs ≡ []
empty_there xs e = cc

-- whether there is a signature, and it has no fault
abbrev pub is_unfaulted : Result (Option SignedImage) Fault → Bool
is_unfaulted (Ok None) = false
is_unfaulted (Ok (Some x)) = has_none (signature_faults_of x)
is_unfaulted (Err f) = false

-- whether all is printed besides, and the entitlements and the requirements are sound
abbrev pub is_all_reported : (left : ℕ) → Result (Option SignedImage) Fault → Bool
is_all_reported left there = (is_unfaulted there && not (is_there_cut left there)) && is_there_sound there

-- lines and objects are whole exactly then
pub lines_unfaulted : (limit left : ℕ) (segments : List SegmentView) (there : Result (Option SignedImage) Fault) (text : List ℕ) (whole : Bool) (rest : ℕ)
    → AreSignatureLines limit left segments there text whole rest → whole ≡ is_all_reported left there
lines_unfaulted limit left segments _ _ _ _ unsigned = refl
lines_unfaulted limit left segments _ _ _ _ (unreadable e) = refl
lines_unfaulted limit left segments _ _ _ _ (signed x text whole rest are) = are.is_whole

pub object_unfaulted : (left : ℕ) (segments : List SegmentView) (there : Result (Option SignedImage) Fault) (text : List ℕ) (whole : Bool) (rest : ℕ)
    → IsSignatureObject left segments there text whole rest → whole ≡ is_all_reported left there
object_unfaulted left segments _ _ _ _ unsigned_object = refl
object_unfaulted left segments _ _ _ _ (unreadable_object e) = refl
object_unfaulted left segments _ _ _ _ (signed_object x text whole rest is) = is.is_whole

-- three conditions hold
pub and_not : (a b s : Bool) → IsTrue ((a && not b) && s) ↔ (IsTrue a × (b ≡ false) × (s ≡ true))
and_not true true s = ((λ h. absurd (cc)), (λ h. absurd (cc)))
and_not true false true = ((λ h. (refl, refl, refl)), (λ h. refl))
and_not true false false = ((λ h. absurd (cc)), (λ h. absurd (cc)))
and_not false b s = ((λ h. absurd (cc)), (λ h. absurd (cc)))

-- an unfaulted signature has an empty list of faults
pub unfaulted_unreported : (there : Result (Option SignedImage) Fault) → IsTrue (is_unfaulted there) → faults_by there ≡ Ok (Some [])
unfaulted_unreported (Ok None) h = absurd (cc)
unfaulted_unreported (Ok (Some x)) h = ap (λ (reported : List SignatureFaultView). Ok (Some reported)) (none_of (signature_faults_of x) h)
unfaulted_unreported (Err f) h = absurd (cc)

-- a signature with an empty list of faults is unfaulted
pub unreported_unfaulted : (there : Result (Option SignedImage) Fault) → faults_by there ≡ Ok (Some []) → IsTrue (is_unfaulted there)
unreported_unfaulted (Ok None) e = absurd (cc)
unreported_unfaulted (Ok (Some x)) e = ap has_none (empty_there (signature_faults_of x) e)
unreported_unfaulted (Err f) e = absurd (cc)
