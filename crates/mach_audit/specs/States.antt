-- Whether an image is encrypted and stripped, and how many symbols it has.
use Rattle.std.specs.Prelude.{◌==◌, ℕ, ◌-◌, List, bit_and, Bool, true, false, not, Option, Some, None, Result, Ok, Err, if◌then◌else◌}
use Rattle.std.specs.List.{list_any}
use Rattle.mach_base.specs.Fault.{Fault}
use Rattle.mach_base.specs.Record.{Value, number_among}
use Rattle.mach_load.specs.Command.{Command}
use Rattle.mach_load.specs.Commands.{Kind, encryption_info32, encryption_info64}
use Rattle.mach_parts.specs.Symbols.{SymbolTable, table_in_bounds, is_stab, symbols_of}
use Rattle.mach_parts.specs.declared.symbols.nlist.Nlist.{Nlist}
use Rattle.mach_audit.specs.declared.state.State.{State}

-- a command of such a kind says that something is encrypted (struct encryption_info_command, cryptid)
abbrev pub is_encrypting_by : Kind → List Value → Bool
is_encrypting_by encryption_info32 values = not (number_among values 4 == 0)
is_encrypting_by encryption_info64 values = not (number_among values 4 == 0)
is_encrypting_by _ values = false

-- a command that says that something is encrypted
abbrev pub is_encrypting : Command → Bool
is_encrypting c = is_encrypting_by c.kind c.values

-- A symbol that `strip` removes: one that isn't external (N_EXT), or a debugging entry other than N_OPT, which stripped images
-- have.
abbrev pub is_local_symbol : Nlist → Bool
is_local_symbol s = if is_stab s then not (s.n_type == 0x3c) else bit_and s.n_type 1 == 0

-- such a symbol, if it can be read
abbrev pub is_local_item : Result (List ℕ × Nlist) Fault → Bool
is_local_item (Ok found) = is_local_symbol found.1
is_local_item (Err f) = false

-- An image is stripped if none of the symbols of its table whose records begin within the bytes is one that `strip` removes.
abbrev pub state_of_commands : List Command → Option SymbolTable → State
state_of_commands cs None = record { is_encrypted = list_any is_encrypting cs; is_stripped = true; symbols = 0; past = 0 }
state_of_commands cs (Some t) = record {
  is_encrypted = list_any is_encrypting cs;
  is_stripped = not (list_any is_local_item (symbols_of (table_in_bounds t)));
  symbols = (table_in_bounds t).nsyms;
  past = t.nsyms - (table_in_bounds t).nsyms;
}
