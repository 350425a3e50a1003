-- Options for the linker (`mach-o/loader.h`, struct linker_option_command): texts after the record, each ended by a zero byte.
use Rattle.std.specs.Prelude.{ℕ, zero, suc, ◌+◌, List, map, length, take, Result, Ok, Err, nat_le, nat_lt, if◌then◌else◌}
use Rattle.mach_base.specs.Answer.{◌>>=◌}
use Rattle.mach_base.specs.Fault.{Fault, malformed}
use Rattle.mach_base.specs.Items.{items_from}
use Rattle.mach_base.specs.Number.{place_after}
use Rattle.mach_base.specs.Record.{Value, number_among}
use Rattle.mach_base.specs.Text.{text_at, run_at}
use Rattle.mach_load.specs.Command.{Command, cmdsize_of}
use Rattle.mach_load.specs.Commands.{Kind, linker_option}
use Rattle.mach_load.specs.CommandLists.{with_number, listed_by}

-- the text at a place, which must end with a zero byte; the bytes are those before the command's end
unfoldable pub option_at : List ℕ → ℕ → Result (List ℕ) Fault
option_at bytes s =
    if nat_le (length bytes) s then Err malformed
    else text_at bytes s >>= (λ text. if nat_lt (s + length text) (length bytes) then Ok text else Err malformed)

-- the place of text k, if text 0 is at a place
abbrev pub option_place : List ℕ → (s k : ℕ) → ℕ
option_place bytes s zero = s
option_place bytes s (suc k) = option_place bytes (s + (length (run_at bytes s) + 1)) k

-- Texts: the bytes that hold them, the place of the first, and their number.
pub record OptionTexts : Type 0 where
  pub bytes : List ℕ
  pub place : ℕ
  pub count : ℕ

abbrev pub texts_of_options : OptionTexts → List (Result (List ℕ) Fault)
texts_of_options t = items_from (λ k. option_at t.bytes (option_place t.bytes t.place k)) 0 t.count

-- how many texts a command claims to have
abbrev pub option_count : Kind → List Value → ℕ
option_count linker_option values = number_among values 2
option_count _ values = 0

-- the texts of a command: after its record, and within the command
abbrev pub option_texts : List ℕ → Command → OptionTexts
option_texts bytes c =
    record {
      bytes = take (place_after c.offset (cmdsize_of c)) bytes;
      place = place_after c.offset 12;
      count = option_count c.kind c.values;
    }

-- each with the number of its command
abbrev pub numbered_options : ℕ → OptionTexts → List (Result (ℕ × List ℕ) Fault)
numbered_options number t = map (with_number number) (texts_of_options t)

abbrev pub options_of : List ℕ → ℕ → Command → List (Result (ℕ × List ℕ) Fault)
options_of bytes number c = numbered_options number (option_texts bytes c)

-- the options of all commands, up to the first fault
abbrev pub linker_options_in : List ℕ → List Command → List (Result (ℕ × List ℕ) Fault)
linker_options_in bytes cs = listed_by (options_of bytes) 0 cs
