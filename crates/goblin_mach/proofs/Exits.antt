-- If `?` leaves a function with an error, the error is a fault that occurs.
use Rattle.std.proofs.Common.{◌≡◌, Result, Ok, Err}
use Rattle.std.specs.Prelude.{IfErr, IsErrAnd, OnOk}
use Rattle.mach_base.specs.declared.error.Error.{Error}
use Rattle.mach_base.specs.Answer.{FailsAs, Gives, ErrorMeets}
use Rattle.mach_base.specs.Fault.{Fault, fault_of}
use Rattle.mach_base.proofs.Faults.{FailsAs-read, ErrorMeets-in, ErrorMeets-reported, ErrorMeets-failed}

exit_occurs : {X : Type 0} (Q : Fault → Type 0) (r : Result X Error) (e : Error) → IsErrAnd r (λ x. x ≡ e) → ErrorMeets Q e → IfErr r (ErrorMeets Q)
exit_occurs Q (Ok x) e left h = tt
exit_occurs Q (Err x) e left h = rw left h

-- a fault of a part is a fault of the whole
pub exit_in : {X : Type 0} (P Q : Fault → Type 0) (r : Result X Error) (e : Error) → IsErrAnd r (λ x. x ≡ e)
    → ((f : Fault) → P f → Q f) → ErrorMeets P e → IfErr r (ErrorMeets Q)
exit_in P Q r e left to h = exit_occurs Q r e left (ErrorMeets-in P Q e to h)

-- the fault in the error occurs
pub exit_reported : {X : Type 0} (Q : Fault → Type 0) (r : Result X Error) (e : Error) → IsErrAnd r (λ x. x ≡ e) → Q (fault_of e) → IfErr r (ErrorMeets Q)
exit_reported Q r e left h = exit_occurs Q r e left (ErrorMeets-reported Q e h)

-- a fault of what is there occurs
pub exit_failed : {X Y : Type 0} (Q : Fault → Type 0) (r : Result X Error) (e : Error) → IsErrAnd r (λ x. x ≡ e)
    → (there : Result Y Fault) → ((f : Fault) → there ≡ Err f → Q f) → FailsAs e there → IfErr r (ErrorMeets Q)
exit_failed Q r e left there to h = exit_occurs Q r e left (ErrorMeets-failed Q e there to h)

-- a read that fails as stated
pub exit_fails : {X Y : Type 0} (r : Result X Error) (e : Error) → IsErrAnd r (λ x. x ≡ e) → (there : Result Y Fault) → there ≡ Err (fault_of e)
    → IfErr r (λ x. FailsAs x there)
exit_fails (Ok x) e left there h = tt
exit_fails (Err x) e left there h = rw left (FailsAs-read e there h)

-- what fails with an error fails in the same way as a result
pub exit_gives : {X Y : Type 0} (view : X → Y) (r : Result X Error) (e : Error) → IsErrAnd r (λ x. x ≡ e)
    → (there : Result Y Fault) → FailsAs e there → Gives view r there
exit_gives view (Ok x) e left there h = absurd left
exit_gives view (Err x) e left there h = rw left h

-- what follows from a result that is Ok
pub ok_then : {X : Type 0} {P Q : Type 0} (r : Result X Error) → (P → Q) → OnOk r P → OnOk r Q
ok_then (Ok x) to h = to h
ok_then (Err e) to h = tt

pub ok_with : {X : Type 0} {P Q R : Type 0} (r : Result X Error) → (P → Q → R) → OnOk r P → OnOk r Q → OnOk r R
ok_with (Ok x) to h k = to h k
ok_with (Err e) to h k = tt

-- a fault of a part is a fault of the whole
pub refused_in : {X : Type 0} (P Q : Fault → Type 0) (r : Result X Error) → ((f : Fault) → P f → Q f) → IfErr r (ErrorMeets P) → IfErr r (ErrorMeets Q)
refused_in P Q (Ok x) to h = tt
refused_in P Q (Err e) to h = ErrorMeets-in P Q e to h
