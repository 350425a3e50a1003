-- Data in code (`mach-o/loader.h`, LC_DATA_IN_CODE, struct data_in_code_entry).
use Rattle.std.specs.Prelude.{ℕ, ◌+◌, ◌*◌, ◌/◌, List, Result, Ok}
use Rattle.mach_base.specs.declared.context.Endian.{Endian}
use Rattle.mach_base.specs.Answer.{◌>>=◌}
use Rattle.mach_base.specs.Fault.{Fault}
use Rattle.mach_base.specs.Items.{items_from}
use Rattle.mach_base.specs.Record.{Value, number_among, record_at}
use Rattle.mach_records.specs.Linkedit.{data_in_code_entry_fields}
use Rattle.mach_records.specs.declared.linkedit.DataInCodeEntry.{DataInCodeEntry}

abbrev pub data_in_code_of_values : List Value → DataInCodeEntry
data_in_code_of_values vs = record { offset = number_among vs 0; length = number_among vs 1; kind = number_among vs 2 }

-- the entry at a place, or the reason why there is none
abbrev pub data_in_code_at : Endian → List ℕ → ℕ → Result DataInCodeEntry Fault
data_in_code_at le bytes s = record_at le data_in_code_entry_fields bytes s >>= (λ vs. Ok (data_in_code_of_values vs))

-- entry k of those that begin at a place
abbrev pub data_in_code_item : Endian → List ℕ → (dataoff k : ℕ) → Result DataInCodeEntry Fault
data_in_code_item le bytes dataoff k = data_in_code_at le bytes (dataoff + 8 * k)

-- the entries that a command places: as many as fit its size
abbrev pub data_in_code_in : Endian → List ℕ → (dataoff datasize : ℕ) → List (Result DataInCodeEntry Fault)
data_in_code_in le bytes dataoff datasize = items_from (data_in_code_item le bytes dataoff) 0 (datasize / 8)
