-- Failures of files that are resolved, as C sees them.
use Rattle.std.proofs.Common.{◌≡◌, ℕ, List, [], ◌∷◌, length, inl, refl, sym, subst, arith}
use Rattle.std.specs.List.{AllZip}
use Rattle.mach_base.specs.Answer.{ErrorMeets}
use Rattle.mach_base.specs.Fault.{Fault, no_memory}
use Rattle.mach_base.specs.declared.error.Error.{Error}
use Rattle.mach_base.specs.declared.error.Error.TheVariants as errors
use Rattle.goblin_mach.specs.View.{ReportsFault}
use Rattle.mach_resolve.specs.Failures.{IsFailure}
use Rattle.mach_resolve.specs.declared.failure.ResolveFailure.{ResolveFailure}
use Rattle.mach_resolve.specs.declared.failure.ResolveFailure.TheVariants as failures
use Rattle.goblin_mach_c.specs.Codes.{IsRefusalCode}
use Rattle.goblin_mach_c.specs.ResolveRows.{IsFailureCode}
use Rattle.goblin_mach_c.proofs.OpenedImage.{refusal_of}

-- an error that reports a fault meets it
meets : (IsFault : Fault → Type 0) (e : Error) → ReportsFault IsFault e → ErrorMeets IsFault e
meets IsFault (errors.Malformed msg) occurs = occurs
meets IsFault (errors.BadMagic magic) occurs = occurs
meets IsFault (errors.Scroll e) occurs = occurs
meets IsFault (errors.BufferTooShort count what) occurs = occurs
meets IsFault (errors.Memory e) occurs = absurd occurs

-- the code of a failure is that of a fault of its file
pub refused_file : (FaultAt : ℕ → Fault → Type 0) (x : ResolveFailure) (code file : ℕ) → IsFailureCode x code file → IsFailure FaultAt x
    → IsRefusalCode (FaultAt file) code
refused_file FaultAt (failures.Refused number e) code file is occurs =
    subst (λ n. IsRefusalCode (FaultAt n) code) (sym is.1) (refusal_of (FaultAt number) e code is.0 (meets (FaultAt number) e occurs))
refused_file FaultAt failures.Memory code file is occurs = record { fault = no_memory; is_code = is.0; occurs = inl refl }

-- no file is given by no part
pub none_given : {X Y : Type 0} (R : X → Y → Type 0) (xs : List X) (ys : List Y) → length ys ≡ 0 → AllZip R xs ys → xs ≡ []
none_given R [] ys none all = refl
none_given R (x ∷ xs) [] none all = absurd all
none_given R (x ∷ xs) (y ∷ ys) none all = absurd (omega (arith, none))
