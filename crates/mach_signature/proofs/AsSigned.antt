-- An image has a signature without a fault exactly when it is as it was signed.
use Rattle.std.proofs.Common.{◌≡◌, ℕ, List, [], ◌∷◌, Bool, Option, Some, None, Result, Ok, Err, refl, sym, ap, ◌∙◌}
use Rattle.std.specs.Prelude.{◌↔◌, IsTrue}
use Rattle.mach_base.specs.Answer.{◌>>=◌}
use Rattle.mach_base.specs.Fault.{Fault}
use Rattle.mach_base.proofs.Binds.{bind_ok, same_ok}
use Rattle.mach_load.specs.Command.{Command}
use Rattle.mach_parts.specs.Segment.{SegmentView}
use Rattle.mach_signature.specs.AsSigned.{SignedImage, SignatureFaultView, signature_in, signature_faults_of, faults_in}
use Rattle.mach_signature.specs.SuperBlob.{SuperBlob}
use Rattle.mach_signature.proofs.Promise.{all_as_signed, as_signed_all}
use Rattle.mach_signature.specs.SignedImages.{signature_place_in, plist_of, faults_there, image_faults, is_as_signed, IsImageAsSigned}

same_list : {A : Type 0} {x y : A} → ◌≡◌ {A = Result (Option A) Fault} (Ok (Some x)) (Ok (Some y)) → x ≡ y
same_list e = cc

module _ (bytes : List ℕ) (cs : List Command) (segments : List SegmentView) where
  abbrev image_of : ℕ × ℕ → SuperBlob → SignedImage
  image_of place s = record { bytes = bytes; dataoff = place.0; signature = s; plist = plist_of bytes segments }

  -- if no fault is reported, a command places a signature
  placed : (place : Option (ℕ × ℕ)) → faults_there bytes place segments ≡ Ok (Some []) → (p : ℕ × ℕ) × (place ≡ Some p)
  placed None e = absurd (cc)
  placed (Some p) e = (p, refl)

  -- and it can be read
  read : (p : ℕ × ℕ) → faults_there bytes (Some p) segments ≡ Ok (Some [])
      → (s : SuperBlob) × (signature_in bytes p.0 p.1 ≡ Ok s) × (signature_faults_of (image_of p s) ≡ [])
  read p e =
      let listed = bind_ok (faults_in bytes p.0 p.1 (plist_of bytes segments)) (λ faults. Ok (Some faults)) (Some []) e in
      let found = bind_ok (signature_in bytes p.0 p.1) (λ s. Ok (signature_faults_of (image_of p s))) listed.0 listed.1 in
      (found.0, found.1, same_ok found.2 ∙ same_list listed.2)

  signed : image_faults bytes cs segments ≡ Ok (Some []) → IsImageAsSigned bytes cs segments
  signed e =
      let there = placed (signature_place_in cs) e in
      let found = read there.0 (ap (λ place. faults_there bytes place segments) (sym there.1) ∙ e) in
      record {
        place = there.0;
        placed = there.1;
        signature = found.0;
        reads = found.1;
        holds = all_as_signed (image_of there.0 found.0) found.2;
      }

  unreported : IsImageAsSigned bytes cs segments → image_faults bytes cs segments ≡ Ok (Some [])
  unreported h =
      ap (λ place. faults_there bytes place segments) h.placed
      ∙ ap (λ (found : Result SuperBlob Fault). (found >>= (λ s. Ok (signature_faults_of (image_of h.place s)))) >>= (λ faults. Ok (Some faults))) h.reads
      ∙ ap (λ (faults : List SignatureFaultView). Ok (Some faults)) (as_signed_all (image_of h.place h.signature) h.holds)

pub as_signed : (bytes : List ℕ) (cs : List Command) (segments : List SegmentView)
    → (image_faults bytes cs segments ≡ Ok (Some [])) ↔ IsImageAsSigned bytes cs segments
as_signed bytes cs segments = (signed bytes cs segments, unreported bytes cs segments)

-- ---- whether it is as signed, from the reports

-- the reports on a signature
abbrev Found : Type 0
Found = Result (Option (List SignatureFaultView)) Fault

true_unreported : (found : Found) (is : Bool) → is_as_signed found ≡ Ok is → IsTrue is → found ≡ Ok (Some [])
true_unreported (Ok None) is e said = absurd (cc)
true_unreported (Ok (Some [])) is e said = refl
true_unreported (Ok (Some (f ∷ fs))) is e said = absurd (cc)
true_unreported (Err f) is e said = absurd (cc)

pub as_signed_said : (bytes : List ℕ) (cs : List Command) (segments : List SegmentView) (is : Bool) → is_as_signed (image_faults bytes cs segments) ≡ Ok is
    → IsTrue is ↔ IsImageAsSigned bytes cs segments
as_signed_said bytes cs segments is e = (
  (λ said. (as_signed bytes cs segments).0 (true_unreported (image_faults bytes cs segments) is e said)),
  (λ holds. sym (same_ok (sym (ap is_as_signed ((as_signed bytes cs segments).1 holds)) ∙ e))),
)

pub refusal_said : (found : Found) (f : Fault) → is_as_signed found ≡ Err f → found ≡ Err f
refusal_said (Ok faults) f e = absurd (cc)
refusal_said (Err g) f e = cc
