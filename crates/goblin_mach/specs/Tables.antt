-- The places of the function starts and of the data-in-code table of an image, by its commands (`mach-o/loader.h`,
-- LC_FUNCTION_STARTS, LC_DATA_IN_CODE).
use Rattle.std.specs.Prelude.{◌≡◌, ℕ, List, [], Option, Some, None, option_map, Result, Ok}
use Rattle.mach_base.specs.declared.context.Endian.{Endian}
use Rattle.mach_base.specs.Fault.{Fault}
use Rattle.mach_base.specs.Record.{Value, number_among}
use Rattle.mach_load.specs.Command.{Command}
use Rattle.mach_load.specs.Commands.{Kind, data_in_code, function_starts}
use Rattle.mach_records.specs.declared.linkedit.DataInCodeEntry.{DataInCodeEntry}
use Rattle.mach_load.specs.DataInCode.{data_in_code_in}
use Rattle.mach_load.specs.FunctionStarts.{start_range_at, AreFunctionStarts}
use Rattle.goblin_mach.specs.Readings.{Reading, read_of, last_of}

-- the place and the size of the numbers that a command places
abbrev pub starts_place_of : Kind → List Value → Option (ℕ × ℕ)
starts_place_of function_starts values = Some (number_among values 2, number_among values 3)
starts_place_of _ values = None

abbrev pub starts_place_by : Reading (ℕ × ℕ)
starts_place_by c = option_map (λ place. Ok place) (starts_place_of c.kind c.values)

-- the same of an image: of the last command that places any
abbrev pub starts_place_in : List Command → Option (ℕ × ℕ)
starts_place_in cs = last_of (read_of starts_place_by cs)

-- the same of the data-in-code table
abbrev pub data_place_of : Kind → List Value → Option (ℕ × ℕ)
data_place_of data_in_code values = Some (number_among values 2, number_among values 3)
data_place_of _ values = None

abbrev pub data_place_by : Reading (ℕ × ℕ)
data_place_by c = option_map (λ place. Ok place) (data_place_of c.kind c.values)

abbrev pub data_place_in : List Command → Option (ℕ × ℕ)
data_place_in cs = last_of (read_of data_place_by cs)

-- these are the functions of an image whose first byte has an address, by the numbers there; none if there are no numbers
abbrev pub AreStartsAt : List ℕ → Option (ℕ × ℕ) → (base : ℕ) → List (Result ℕ Fault) → Type 0
AreStartsAt bytes None base items = items ≡ []
AreStartsAt bytes (Some place) base items = AreFunctionStarts (start_range_at bytes place.0 place.1) base items

-- the entries of the table there; none if there is no table
abbrev pub data_in_code_there : Endian → List ℕ → Option (ℕ × ℕ) → List (Result DataInCodeEntry Fault)
data_in_code_there le bytes None = []
data_in_code_there le bytes (Some place) = data_in_code_in le bytes place.0 place.1
