-- Errors that report a fault that holds.
use Rattle.mach_base.specs.declared.error.Error.{Error}
use Rattle.mach_base.specs.declared.error.Error.TheVariants as errors
use Rattle.mach_base.specs.Fault.{Fault, malformed, bad_magic, too_short, fault_of, fault_of_scroll}
use Rattle.mach_base.specs.Answer.{FailsAs, ErrorMeets}
use Rattle.std.proofs.Common.{◌≡◌, Result, Err}

-- the fault that an error reports holds
pub ErrorMeets-reported : (P : Fault → Type 0) (e : Error) → P (fault_of e) → ErrorMeets P e
ErrorMeets-reported P (errors.Malformed m) h = h
ErrorMeets-reported P (errors.BadMagic n) h = h
ErrorMeets-reported P (errors.Scroll e) h = h
ErrorMeets-reported P (errors.BufferTooShort n m) h = h
ErrorMeets-reported P (errors.Memory e) h = tt

-- a fault of a part is one of the whole
pub ErrorMeets-in : (P Q : Fault → Type 0) (e : Error) → ((f : Fault) → P f → Q f) → ErrorMeets P e → ErrorMeets Q e
ErrorMeets-in P Q (errors.Malformed m) to h = to malformed h
ErrorMeets-in P Q (errors.BadMagic n) to h = to (bad_magic n) h
ErrorMeets-in P Q (errors.Scroll e) to h = to (fault_of_scroll e) h
ErrorMeets-in P Q (errors.BufferTooShort n m) to h = to (too_short n m.now) h
ErrorMeets-in P Q (errors.Memory e) to h = tt

-- an error that reports the fault of a read, if memory may also run out
pub FailsAs-read : {Y : Type 0} (e : Error) (there : Result Y Fault) → there ≡ Err (fault_of e) → FailsAs e there
FailsAs-read (errors.Malformed m) there h = h
FailsAs-read (errors.BadMagic n) there h = h
FailsAs-read (errors.Scroll e) there h = h
FailsAs-read (errors.BufferTooShort n m) there h = h
FailsAs-read (errors.Memory e) there h = tt

-- a fault of what is there holds
pub ErrorMeets-failed : {Y : Type 0} (P : Fault → Type 0) (e : Error) (there : Result Y Fault) → ((f : Fault) → there ≡ Err f → P f)
    → FailsAs e there → ErrorMeets P e
ErrorMeets-failed P (errors.Malformed m) there to h = to malformed h
ErrorMeets-failed P (errors.BadMagic n) there to h = to (bad_magic n) h
ErrorMeets-failed P (errors.Scroll e) there to h = to (fault_of_scroll e) h
ErrorMeets-failed P (errors.BufferTooShort n m) there to h = to (too_short n m.now) h
ErrorMeets-failed P (errors.Memory e) there to h = tt
