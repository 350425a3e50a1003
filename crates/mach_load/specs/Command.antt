-- The load command at a place (`mach-o/loader.h`, struct load_command).
use Rattle.std.specs.Prelude.{◌≡◌, ◌⊎◌, ℕ, ◌-◌, ◌≤◌, List, length, Result, Ok, Err, nat_lt, if◌then◌else◌}
use Rattle.mach_base.specs.declared.context.Endian.{Endian}
use Rattle.mach_base.specs.Answer.{◌>>=◌}
use Rattle.mach_base.specs.Fault.{Fault, malformed}
use Rattle.mach_base.specs.Record.{Value, number_among, size, record_at}
use Rattle.mach_records.specs.LoadCommandHeader.{header_fields}
use Rattle.mach_load.specs.Commands.{Kind, thread, unixthread, Body, by_fields, by_thread, CommandRow, row_of}
use Rattle.mach_load.specs.ThreadState.{thread_at}

-- a load command: its place, its kind, and the values of its record, which begin with cmd and cmdsize
pub record Command : Type 0 where
  pub offset : ℕ
  pub kind : Kind
  pub values : List Value

abbrev pub cmd_of : Command → ℕ
cmd_of c = number_among c.values 0

abbrev pub cmdsize_of : Command → ℕ
cmdsize_of c = number_among c.values 1

-- the values of the record at s
abbrev pub body_at : Body → Endian → List ℕ → ℕ → Result (List Value) Fault
body_at (by_fields fields) le bytes s = record_at le fields bytes s
body_at by_thread le bytes s = thread_at le bytes s

-- the command at s, read by a row of the table
abbrev pub command_by : CommandRow → Endian → List ℕ → ℕ → Result Command Fault
command_by row le bytes s = do
  values ← body_at row.body le bytes s
  Ok (record { offset = s; kind = row.kind; values = values })

-- n is the size of the record, and the command is no thread
abbrev pub IsSizeOf : ℕ → Body → Type 0
IsSizeOf n (by_fields fields) = n ≡ size fields
IsSizeOf n by_thread = ⊥

-- n bytes hold the record, and the command is no thread
abbrev pub IsHeldBy : ℕ → Body → Type 0
IsHeldBy n (by_fields fields) = size fields ≤ n
IsHeldBy n by_thread = ⊥

-- The load command at s, or the reason why there is none. Its cmdsize must not exceed the bytes
-- that are left. Its record is the one of the table's row for its cmd, whatever the cmdsize.
abbrev pub command_at : Endian → List ℕ → ℕ → Result Command Fault
command_at le bytes s =
    record_at le header_fields bytes s >>= λ header.
    if nat_lt (length bytes - s) (number_among header 1) then Err malformed
    else command_by (row_of (number_among header 0)) le bytes s

-- a command that holds the registers of a thread
abbrev pub IsThread : Command → Type 0
IsThread c = (c.kind ≡ thread) ⊎ (c.kind ≡ unixthread)

-- a thread is there, or nothing that can be read
abbrev pub IsThreadOrRefused : Result Command Fault → Type 0
IsThreadOrRefused (Ok c) = IsThread c
IsThreadOrRefused (Err f) = Unit {0}

-- the load command at the start of some bytes, and its width, which is its cmdsize
abbrev pub command_front : Endian → List ℕ → Result (Command × ℕ) Fault
command_front le bytes = command_at le bytes 0 >>= λ c. Ok (c, cmdsize_of c)
