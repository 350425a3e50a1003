-- The address at which an image begins to run (`mach-o/loader.h`, struct entry_point_command and thread_command; dyld).
use Rattle.std.specs.Prelude.{◌≡◌, ◌⊎◌, ℕ, ◌+◌, ◌-◌, ◌^◌, List, codes, nat_le, nat_lt, Bool, true, false, ◌&&◌, Option, Some}
use Rattle.std.specs.Prelude.{None, option_map, Result, Ok, Err, if◌then◌else◌}
use Rattle.std.specs.Str.{bytes_eq}
use Rattle.mach_base.specs.Answer.{◌>>=◌}
use Rattle.mach_base.specs.Fault.{Fault, malformed}
use Rattle.mach_base.specs.Record.{Value, number_among, bytes_among}
use Rattle.mach_base.specs.Text.{text_at}
use Rattle.mach_load.specs.Command.{Command}
use Rattle.mach_load.specs.Commands.{Kind, main, segment32, segment64, unixthread}
use Rattle.mach_load.specs.ThreadState.{pointer_in, state_words}
use Rattle.goblin_mach.specs.Readings.{Reading, read_of, first_of, IsUnread}
use Rattle.goblin_mach.specs.declared.entry.Mapping.{Mapping}

-- the place in the file of the main program, by a command that names it
abbrev pub main_of : Kind → List Value → Option ℕ
main_of main values = Some (number_among values 2)
main_of _ values = None

abbrev pub main_by : Reading ℕ
main_by c = option_map (λ entryoff. Ok entryoff) (main_of c.kind c.values)

-- the words of the thread with which an image begins
abbrev pub thread_of : Kind → List Value → Option (List ℕ)
thread_of unixthread values = Some (state_words values)
thread_of _ values = None

-- its instruction pointer, by the cpu; it can't be read if the cpu's registers aren't known
abbrev pub pointer_by : ℕ → Reading ℕ
pointer_by cputype c = option_map (λ words. pointer_in words cputype) (thread_of c.kind c.values)

-- whether a name can be read and is __TEXT
abbrev pub is_named_text : Result (List ℕ) Fault → Bool
is_named_text (Ok name) = bytes_eq name (codes "__TEXT")
is_named_text (Err f) = false

-- whether that is the name in the field of a segment: its text up to the first zero byte, or all of it if there is none
abbrev pub is_text_name : List ℕ → Bool
is_text_name segname = is_named_text (text_at segname 0)

-- the mapping of a segment of 32 or 64 bits, if it is one of the program's text
abbrev pub text_among : List Value → Option Mapping
text_among values =
    if is_text_name (bytes_among values 2) then Some (record { vmaddr = number_among values 3; fileoff = number_among values 5 })
    else None

abbrev pub text_mapping_of : Kind → List Value → Option Mapping
text_mapping_of segment32 values = text_among values
text_mapping_of segment64 values = text_among values
text_mapping_of _ values = None

-- a segment of the program's text
abbrev pub text_by : Reading Mapping
text_by c = option_map (λ text. Ok text) (text_mapping_of c.kind c.values)

-- the address of a place in the file, as a segment is mapped, if it has at most 64 bits
abbrev pub address_in : Mapping → ℕ → Result ℕ Fault
address_in c place =
    if nat_le c.fileoff (place + c.vmaddr) && nat_lt (place + c.vmaddr - c.fileoff) (2 ^ 64) then Ok (place + c.vmaddr - c.fileoff)
    else Err malformed

-- the address of the main program, which needs a segment of text
abbrev pub main_address : Option Mapping → ℕ → Result ℕ Fault
main_address None entryoff = Err malformed
main_address (Some text) entryoff = address_in text entryoff

-- the address at which an image begins, and whether a thread's state holds it
pub record EntryPoint : Type 0 where
  pub address : ℕ
  pub old_style : Bool

-- The main program comes before a thread's state. If the image has neither, the address is 0.
abbrev pub entry_point_of : (main pointer : Option ℕ) → Option Mapping → Result EntryPoint Fault
entry_point_of (Some entryoff) pointer text = main_address text entryoff >>= λ address. Ok (record { address = address; old_style = false })
entry_point_of None (Some pointer) text = Ok (record { address = pointer; old_style = true })
entry_point_of None None text = Ok (record { address = 0; old_style = false })

-- the entry of an image: by the first main program, the first thread's state and the first segment of text
abbrev pub entry_point_in : ℕ → List Command → Result EntryPoint Fault
entry_point_in cputype cs =
    entry_point_of (first_of (read_of main_by cs)) (first_of (read_of (pointer_by cputype) cs)) (first_of (read_of text_by cs))

-- Why an image has no entry: a thread's state of an unknown cpu, or no such address.
abbrev pub EntryPointFault : ℕ → List Command → Fault → Type 0
EntryPointFault cputype cs f = IsUnread (pointer_by cputype) cs f ⊎ (entry_point_in cputype cs ≡ Err f)
