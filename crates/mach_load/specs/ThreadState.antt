-- The state of a thread (`mach-o/loader.h`, struct thread_command). The registers are
-- those of `mach/i386/thread_status.h` and of the corresponding headers for other CPUs.
use Rattle.std.specs.Prelude.{◌==◌, ℕ, zero, suc, ◌+◌, ◌-◌, ◌*◌, ◌^◌, List, [], ◌∷◌, ◌++◌, map, length, drop, replicate, slice_index, Result, Ok, Err}
use Rattle.std.specs.Prelude.{nat_lt, nat_le, if◌then◌else◌}
use Rattle.mach_base.specs.declared.context.Endian.{Endian}
use Rattle.mach_base.specs.Answer.{◌>>=◌}
use Rattle.mach_base.specs.Fault.{Fault, malformed}
use Rattle.mach_base.specs.Number.{number}
use Rattle.mach_base.specs.Record.{Field, num, Value, number_is, bytes_are, number_among, record_at}
use Rattle.mach_load.specs.declared.thread.ThreadCommand.{ThreadCommand}

-- cmd, cmdsize, flavor and count, which come before the words
abbrev pub thread_fields : List Field
thread_fields = num 4 ∷ num 4 ∷ num 4 ∷ num 4 ∷ []

-- the n numbers of four bytes from a place on
abbrev pub words_at : Endian → List ℕ → ℕ → ℕ → List ℕ
words_at le bytes place zero = []
words_at le bytes place (suc n) = words_at le bytes place n ++ number le 4 (drop (place + 4 * n) bytes) ∷ []

-- seventy words: the first `count` from a place on, and zeros
abbrev pub state_at : Endian → List ℕ → ℕ → ℕ → List ℕ
state_at le bytes place count = words_at le bytes place count ++ replicate (70 - count) 0

abbrev pub thread_values : ThreadCommand → List Value
thread_values t = number_is t.cmd ∷ number_is t.cmdsize ∷ number_is t.flavor ∷ number_is t.count ∷ map number_is t.thread_state

abbrev pub number_of : Value → ℕ
number_of (number_is n) = n
number_of (bytes_are bs) = 0

-- the words of a thread's state, which follow cmd, cmdsize, flavor and count
abbrev pub state_words : List Value → List ℕ
state_words values = map number_of (drop 4 values)

-- the state that follows its head; the head says how many words there are
abbrev pub state_after : Endian → List ℕ → ℕ → List Value → Result (List Value) Fault
state_after le bytes s head =
    if nat_lt 70 (number_among head 3) then Err malformed
    else (if nat_le (s + 16 + 4 * number_among head 3) (length bytes)
    then Ok (head ++ map number_is (state_at le bytes (s + 16) (number_among head 3))) else Err malformed)

-- the thread command at s, or the reason why there is none
unfoldable pub thread_at : Endian → List ℕ → ℕ → Result (List Value) Fault
thread_at le bytes s = record_at le thread_fields bytes s >>= state_after le bytes s

-- the thread command at the start of some bytes, and its width, which is its cmdsize
abbrev pub thread_front : Endian → List ℕ → Result (List Value × ℕ) Fault
thread_front le bytes = thread_at le bytes 0 >>= λ values. Ok (values, number_among values 1)

-- the instruction pointer among the words of a state, by the CPU type (`mach/machine.h`)
abbrev pub pointer_in : List ℕ → ℕ → Result ℕ Fault
pointer_in words cputype =
    if cputype == 7 then Ok (slice_index words 10)
    else (if cputype == 0x0100_0007 then Ok (slice_index words 32 + 2 ^ 32 * slice_index words 33)
    else (if cputype == 12 then Ok (slice_index words 15)
    else (if cputype == 0x0100_000c then Ok (slice_index words 64 + 2 ^ 32 * slice_index words 65)
    else (if cputype == 0x0200_000c then Ok (slice_index words 64 + 2 ^ 32 * slice_index words 65)
    else (if cputype == 18 then Ok (slice_index words 0)
    else Err malformed)))))
