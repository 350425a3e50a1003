-- What the status says of a file whose faults are listed.
use Rattle.std.proofs.Common.{◌≡◌, ◌⊎◌, inl, inr, ℕ, List, [], ◌∷◌, Option, Result, Ok, Err, Bool, false, IfOk, IfErr, subst}
use Rattle.std.specs.Io.KnownBytes.{Appends, Keeps}
use Rattle.std.proofs.lemmas.Bool.{false≢true}
use Rattle.std.proofs.lemmas.Result.{IfErr-at_err}
use Rattle.mach_base.proofs.Written.{Appends-kept}
use Rattle.mach_layout.specs.declared.fault.LayoutFault.{LayoutFault}
use Rattle.machfat.specs.Faults.{ReportsFatFaults, is_faultless}
use Rattle.machfat.specs.Refusals.{RefusesFaults, RefusesFile, RefusesUnwritten, refusal_line}
use Rattle.machfat.specs.declared.refusal.Refusal.{Refusal}
use Rattle.machfat.specs.declared.refusal.WriteFailure.{WriteFailure}
use Rattle.machfat.specs.declared.refusal.WriteFailure.TheVariants as failures

-- a fault was reported
abbrev IsFaulty : ℕ → List ℕ → (old new : Option (List ℕ)) → Type 0
IsFaulty limit bytes old new = (fault : LayoutFault) × (faults : List LayoutFault) × ReportsFatFaults limit bytes (fault ∷ faults) old new

faulty : (limit : ℕ) (bytes : List ℕ) (faults : List LayoutFault) (old middle new : Option (List ℕ)) → false ≡ is_faultless faults
    → ReportsFatFaults limit bytes faults old middle → Keeps middle new → IsFaulty limit bytes old new
faulty limit bytes [] old middle new is reports kept = absurd (false≢true is)
faulty limit bytes (fault ∷ faults) old middle new is reports kept =
    (fault, faults, record { has = reports.has; reported = Appends-kept old middle new _ reports.reported kept })

pub faulty_or_refused : (limit : ℕ) (bytes file : List ℕ) (answer : Result Bool WriteFailure) (old middle new err_old err_new : Option (List ℕ))
    → IfOk answer (λ sound. (faults : List LayoutFault) × (sound ≡ is_faultless faults) × ReportsFatFaults limit bytes faults old middle)
    → IfErr answer (RefusesUnwritten (RefusesFaults bytes) old middle) → Keeps middle new
    → (answer ≡ Ok false) ⊎ ((refusal : Refusal) × (answer ≡ Err (failures.Refused refusal)) × Appends err_old err_new (refusal_line file refusal))
    → IsFaulty limit bytes old new ⊎ RefusesFile (RefusesFaults bytes) file old new err_old err_new
faulty_or_refused limit bytes file answer old middle new err_old err_new reported refused kept (inl is) =
    let listed = subst (λ (a : Result Bool WriteFailure).
    IfOk a (λ sound. (faults : List LayoutFault) × (sound ≡ is_faultless faults) × ReportsFatFaults limit bytes faults old middle)) is reported in
    inl (faulty limit bytes listed.0 old middle new listed.1 listed.2 kept)
faulty_or_refused limit bytes file answer old middle new err_old err_new reported refused kept (inr (refusal, is, said)) =
    let why = IfErr-at_err (RefusesUnwritten (RefusesFaults bytes) old middle) is refused in
    inr (record { refusal = refusal; occurs = why.0; nothing = Appends-kept old middle new [] why.1 kept; said = said })
