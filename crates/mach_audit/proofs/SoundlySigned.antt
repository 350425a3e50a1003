-- The report of a signature, and whether it is sound.
use Rattle.std.proofs.Common.{◌≡◌, ◌-◌, ◌^◌, ◌∙◌, ◌∷◌, [], ℕ, zero, suc, List, length, min, Option, Some, None, Result, Ok, Err, refl, sym, ap, arith, inl, inr}
use Rattle.std.specs.Prelude.{◌⊎◌, ◌==◌, if◌then◌else◌}
use Rattle.std.proofs.Math.Dec.{eqb-suc-zero}
use Rattle.mach_base.specs.Answer.{◌>>=◌}
use Rattle.mach_base.specs.Fault.{Fault, fault_of}
use Rattle.mach_load.specs.Command.{Command}
use Rattle.mach_parts.specs.Segment.{SegmentView}
use Rattle.mach_signature.specs.AsSigned.{SignatureFaultView, faults_in}
use Rattle.mach_signature.specs.SignedImages.{signature_place_in, plist_of, faults_there, image_faults}
use Rattle.mach_signature.proofs.AsSigned.{as_signed}
use Rattle.mach_audit.proofs.Judgements.{sound_judged, faulty_judged}
use Rattle.mach_audit.specs.Signed.{ReportsSignature}
use Rattle.mach_audit.specs.Sound as sound
use Rattle.mach_audit.specs.Sound.{IsSoundlySigned}
use Rattle.mach_audit.specs.Verdicts.{Judges, verdict_of_signature}
use Rattle.mach_audit.specs.declared.report.SignatureReport.{SignatureReport}
use Rattle.mach_audit.specs.declared.report.SignatureReport.TheVariants.{Unsigned, Unreadable, Signed}
use Rattle.mach_audit.specs.declared.verdict.Soundness.TheVariants.{Sound, Faulty}

-- the faults of an image's signature
abbrev Found : Type 0
Found = Result (Option (List SignatureFaultView)) Fault

-- nothing is reported of it: there is no signature, or it has no faults
abbrev IsUnreported : Found → Type 0
IsUnreported there = (there ≡ Ok None) ⊎ (there ≡ Ok (Some []))

refused_reported : (there : Found) (f : Fault) → there ≡ Err f → IsUnreported there → ⊥
refused_reported _ f is (inl none) = let wrong : ◌≡◌ {A = Found} (Ok None) (Err f) = sym none ∙ is in cc
refused_reported _ f is (inr none) = let wrong : ◌≡◌ {A = Found} (Ok (Some [])) (Err f) = sym none ∙ is in cc

some_reported : (there : Found) (f : SignatureFaultView) (fs : List SignatureFaultView) → there ≡ Ok (Some (f ∷ fs)) → IsUnreported there → ⊥
some_reported _ f fs is (inl none) = let wrong : ◌≡◌ {A = Found} (Ok None) (Ok (Some (f ∷ fs))) = sym none ∙ is in cc
some_reported _ f fs is (inr none) = let wrong : ◌≡◌ {A = Found} (Ok (Some [])) (Ok (Some (f ∷ fs))) = sym none ∙ is in cc

no_faults : (found : Result (List SignatureFaultView) Fault) → found >>= (λ faults. Ok (Some faults)) ≡ Ok None → ⊥
no_faults (Ok faults) none = cc
no_faults (Err f) none = cc

module _ (bytes : List ℕ) (cs : List Command) (segments : List SegmentView) where
  -- if there is no signature, no command names one
  unplaced : (place : Option (ℕ × ℕ)) → faults_there bytes place segments ≡ Ok None → place ≡ None
  unplaced None none = refl
  unplaced (Some place) none = absurd (no_faults (faults_in bytes place.0 place.1 (plist_of bytes segments)) none)

  unreported : IsSoundlySigned bytes cs segments → IsUnreported (image_faults bytes cs segments)
  unreported (sound.unsigned none) = inl (ap (λ place. faults_there bytes place segments) none)
  unreported (sound.as_signed holds) = inr ((as_signed bytes cs segments).1 holds)

  signed_judged : (n : ℕ) (faults : List SignatureFaultView) → image_faults bytes cs segments ≡ Ok (Some faults) → n ≡ min (length faults) (2 ^ 64 - 1)
      → Judges (IsSoundlySigned bytes cs segments) ⊥ (if n == 0 then Sound else Faulty)
  signed_judged zero [] is count = sound_judged (sound.as_signed ((as_signed bytes cs segments).0 is)) (λ l. l)
  signed_judged zero (f ∷ fs) is count = absurd (omega (arith, count))
  signed_judged (suc n) [] is count = absurd (omega (arith, count))
  signed_judged (suc n) (f ∷ fs) is count =
      rw (eqb-suc-zero n) (faulty_judged (λ s. some_reported (image_faults bytes cs segments) f fs is (unreported s)))

  -- a verdict on it
  pub signature_judged_by : {A : Type 0} (q : SignatureReport A) → ReportsSignature (image_faults bytes cs segments) q
      → Judges (IsSoundlySigned bytes cs segments) ⊥ (verdict_of_signature q)
  signature_judged_by Unsigned none = sound_judged (sound.unsigned (unplaced (signature_place_in cs) none)) (λ l. l)
  signature_judged_by (Unreadable e) reported = faulty_judged (λ s. refused_reported (image_faults bytes cs segments) (fault_of e) reported.1 (unreported s))
  signature_judged_by (Signed p) reported = signed_judged p.faults reported.0 reported.1 reported.2.count
