-- The rules of bindings, and what is left of an iterator over them. Callers don't need it: the contract of `bindings` says
-- that the items at the start are those of the definitions.
use Rattle.std.specs.Prelude.{◌==◌, ℕ, ℤ, pos, List, Bool, true, false, Option, Some, None, Result, if◌then◌else◌, bit_and}
use Rattle.mach_base.specs.Fault.{Fault}
use Rattle.mach_parts.specs.Bindings.{Binding}
use Rattle.mach_dyld.specs.Bindings.{SetBefore, special_ordinal, first_kind, gives_ordinal, gives_name, gives_segment, binding_of, opcode_at}
use Rattle.mach_dyld.specs.Machine.{Rules, items_left}
use Rattle.mach_dyld.specs.declared.bindings.OpcodeBindingIterator.{OpcodeBindingIterator}
use Rattle.mach_dyld.specs.declared.bindings.BindingSettings.{BindingSettings}

-- the special ordinal, if one was set, else the one of the library
abbrev pub ordinal_now : Option ℤ → ℕ → ℤ
ordinal_now None library = pos library
ordinal_now (Some special) library = special

abbrev pub given_now : BindingSettings → ℕ → SetBefore
given_now m library = record {
  ordinal = ordinal_now m.special library;
  kind = m.kind;
  has_ordinal = m.has_ordinal;
  has_name = m.has_name;
  has_segment = m.has_segment;
}

abbrev pub first_extra : Bool → BindingSettings
first_extra is_lazy = record { special = None; kind = first_kind is_lazy; has_ordinal = false; has_name = false; has_segment = false }

-- the special ordinal after an opcode with its immediate
abbrev pub special_after : Option ℤ → ℕ → ℕ → Option ℤ
special_after special opcode imm =
    if opcode == 0x30 then Some (special_ordinal imm)
    else (if opcode == 0x10 then None
    else (if opcode == 0x20 then None
    else special))

-- the settings after an opcode with its immediate
abbrev pub extra_after : ℕ → ℕ → BindingSettings → BindingSettings
extra_after opcode imm m = record {
  special = special_after m.special opcode imm;
  kind = if opcode == 0x50 then imm else m.kind;
  has_ordinal = if gives_ordinal opcode then true else m.has_ordinal;
  has_name = if gives_name opcode then true else m.has_name;
  has_segment = if gives_segment opcode then true else m.has_segment;
}

abbrev pub binding_rules : Rules BindingSettings Binding
binding_rules = record {
  first = first_extra;
  set = λ byte m. extra_after (bit_and byte 0xf0) (bit_and byte 0x0f) m;
  read = opcode_at;
  makes = λ x b m. binding_of x (given_now m b.library) b;
}

-- the bindings that are left, up to the first fault
abbrev pub opcode_bindings_left : OpcodeBindingIterator → List (Result Binding Fault)
opcode_bindings_left it = items_left binding_rules it.stream
