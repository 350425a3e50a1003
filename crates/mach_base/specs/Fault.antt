-- What is wrong with some bytes: the kind of an error and its numbers, without its message.
use Rattle.std.specs.Prelude.{ℕ, List, [], ◌∷◌, Bool, true, false, Option, Some, None, Result, Err}
use Rattle.mach_base.specs.declared.error.ScrollError.{ScrollError}
use Rattle.mach_base.specs.declared.error.ScrollError.TheVariants as scroll
use Rattle.mach_base.specs.declared.error.Error.{Error}
use Rattle.mach_base.specs.declared.error.Error.TheVariants as errors

pub data Fault : Type 0 where
  malformed : Fault
  bad_magic : (magic : ℕ) → Fault
  bad_offset : (place : ℕ) → Fault
  too_big : (size len : ℕ) → Fault
  bad_input : (size : ℕ) → Fault
  too_short : (count : ℕ) (what : List ℕ) → Fault
  no_memory : Fault

-- a read at or past the end of the bytes
abbrev pub is_bad_offset : Fault → Bool
is_bad_offset malformed = false
is_bad_offset (bad_magic magic) = false
is_bad_offset (bad_offset place) = true
is_bad_offset (too_big size len) = false
is_bad_offset (bad_input size) = false
is_bad_offset (too_short count what) = false
is_bad_offset no_memory = false

abbrev pub fault_of_scroll : ScrollError → Fault
fault_of_scroll (scroll.BadOffset place) = bad_offset place
fault_of_scroll (scroll.TooBig size len) = too_big size len
fault_of_scroll (scroll.BadInput size msg) = bad_input size

-- the fault that an error reports
abbrev pub fault_of : Error → Fault
fault_of (errors.Malformed msg) = malformed
fault_of (errors.BadMagic magic) = bad_magic magic
fault_of (errors.Scroll e) = fault_of_scroll e
fault_of (errors.BufferTooShort count what) = too_short count what.now
fault_of (errors.Memory e) = no_memory

-- the fault as an item, if there is one
abbrev pub fault_item : {A : Type 0} → Option Fault → List (Result A Fault)
fault_item None = []
fault_item (Some f) = Err f ∷ []
