-- How the result of a call relates to what the bytes hold.
use Rattle.std.specs.Prelude.{◌≡◌, Result, Ok, Err}
use Rattle.mach_base.specs.declared.error.Error.{Error}
use Rattle.mach_base.specs.declared.error.Error.TheVariants as errors
use Rattle.mach_base.specs.Fault.{Fault, malformed, bad_magic, too_short, fault_of, fault_of_scroll}

-- the result, seen by view, is what is there, or the error, seen by fault, is the reason why nothing is there
abbrev pub ReadsBy : {X Y E : Type 0} → (E → Fault) → (X → Y) → Result X E → Result Y Fault → Type 0
ReadsBy fault view (Ok x) there = there ≡ Ok (view x)
ReadsBy fault view (Err e) there = there ≡ Err (fault e)

-- the result, seen by view, is what is there, or the error reports why nothing is there
abbrev pub Reads : {X Y : Type 0} → (X → Y) → Result X Error → Result Y Fault → Type 0
Reads view answer there = ReadsBy fault_of view answer there

-- the error reports why nothing is there, or it is out of memory
abbrev pub FailsAs : {Y : Type 0} → Error → Result Y Fault → Type 0
FailsAs (errors.Malformed msg) there = there ≡ Err malformed
FailsAs (errors.BadMagic magic) there = there ≡ Err (bad_magic magic)
FailsAs (errors.Scroll e) there = there ≡ Err (fault_of_scroll e)
FailsAs (errors.BufferTooShort count what) there = there ≡ Err (too_short count what.now)
FailsAs (errors.Memory e) there = Unit {0}

-- like Reads, but the error may also be out of memory
abbrev pub Gives : {X Y : Type 0} → (X → Y) → Result X Error → Result Y Fault → Type 0
Gives view (Ok x) there = there ≡ Ok (view x)
Gives view (Err e) there = FailsAs e there

-- the error reports a fault that holds, or it is out of memory
abbrev pub ErrorMeets : (Fault → Type 0) → Error → Type 0
ErrorMeets IsFault (errors.Malformed msg) = IsFault malformed
ErrorMeets IsFault (errors.BadMagic magic) = IsFault (bad_magic magic)
ErrorMeets IsFault (errors.Scroll e) = IsFault (fault_of_scroll e)
ErrorMeets IsFault (errors.BufferTooShort count what) = IsFault (too_short count what.now)
ErrorMeets IsFault (errors.Memory e) = Unit {0}

-- the result is Ok, unless memory runs out
abbrev pub IsOkUnlessMemory : {X : Type 0} → Result X Error → Type 0
IsOkUnlessMemory (Ok x) = Unit {0}
IsOkUnlessMemory (Err e) = ErrorMeets (λ _. ⊥) e

-- the next step from what is there, or the fault of the first step
infixl 10 ◌>>=◌
abbrev pub ◌>>=◌ : {A B : Type 0} → Result A Fault → (A → Result B Fault) → Result B Fault
(Ok x) >>= f = f x
(Err e) >>= f = Err e
