-- Values at the start of some bytes, and values at an offset.
use Rattle.std.specs.Prelude.{◌≡◌, ℕ, ◌+◌, ◌^◌, List, Result, Ok, Err, nat_lt, if◌then◌else◌}
use Rattle.std.proofs.Common.{ap}
use Rattle.mach_base.specs.declared.context.Endian.{Endian}
use Rattle.mach_base.specs.declared.error.Error.{Error}
use Rattle.mach_base.specs.Answer.{◌>>=◌}
use Rattle.mach_base.specs.Fault.{Fault, fault_of, malformed}
use Rattle.mach_base.specs.Number.{rest_from}
use Rattle.mach_base.specs.Record.{Field, Value, size, record_at}

-- a value and its width in bytes, or the reason why there is none
abbrev pub Found : Type 0 → Type 0
Found V = Result (V × ℕ) Fault

-- the value at s: the one with which the bytes from s on begin, if s lies in the bytes
abbrev pub front_at : {V : Type 0} → (List ℕ → Found V) → List ℕ → ℕ → Found V
front_at front bytes s = rest_from bytes s >>= front

-- the value alone
abbrev pub value_of : {V : Type 0} → Found V → Result V Fault
value_of (Ok found) = Ok found.0
value_of (Err fault) = Err fault

-- the value at s and the place after it, if that is below 2^64
abbrev pub value_and_next : {V : Type 0} → ℕ → Found V → Found V
value_and_next s (Ok found) = if nat_lt (s + found.1) (2 ^ 64) then Ok (found.0, s + found.1) else Err malformed
value_and_next s (Err fault) = Err fault

-- a value of a known width
abbrev pub with_width : {V : Type 0} → ℕ → Result V Fault → Found V
with_width n (Ok v) = Ok (v, n)
with_width n (Err fault) = Err fault

-- the values of the record with which the bytes begin
abbrev pub record_front : Endian → List Field → List ℕ → Found (List Value)
record_front le fields bytes = with_width (size fields) (record_at le fields bytes 0)

-- an error that is converted from another reports the same fault
abbrev pub KeepsFault : {E : Type 0} → (Error → E → Type 0) → (E → Fault) → Type 0
KeepsFault {E} made_of fault = (e : Error) (made : E) → made_of e made → fault made ≡ fault_of e

-- an error reports its own fault
pub same_fault : KeepsFault (λ e made. made ≡ e) fault_of
same_fault e made same = ap fault_of same
