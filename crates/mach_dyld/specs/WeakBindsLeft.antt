-- The rules of weak binds, and what is left of an iterator over them. Callers don't need it: the contract of `iter` says
-- that the items at the start are those of the definitions.
use Rattle.std.specs.Prelude.{◌==◌, ℕ, List, true, false, Result, Ok, if◌then◌else◌, bit_and}
use Rattle.mach_base.specs.Fault.{Fault, fault_of}
use Rattle.mach_base.specs.declared.error.Error.{Error}
use Rattle.mach_parts.specs.Bindings.{binding_view}
use Rattle.mach_dyld.specs.Binds.{Bind}
use Rattle.mach_dyld.specs.Bindings.{gives_name, gives_segment}
use Rattle.mach_dyld.specs.Machine.{Rules, HasEnded, items_left, item_read, opcodes_left}
use Rattle.mach_dyld.specs.Streams.{Input}
use Rattle.mach_dyld.specs.WeakBinds.{WeakBind, WeakSet, strong_name, weakly_bound, is_own, weak_bind_of, weak_opcode_at}
use Rattle.mach_dyld.specs.declared.weak_binds.WeakBind as declared
use Rattle.mach_dyld.specs.declared.weak_binds.WeakBind.TheVariants as variants
use Rattle.mach_dyld.specs.declared.weak_binds.WeakBindSettings.{WeakBindSettings}
use Rattle.mach_dyld.specs.declared.weak_binds.WeakBindIterator.{WeakBindIterator}

abbrev pub set_now : WeakBindSettings → WeakSet
set_now m = record { kind = m.kind; has_name = m.has_name; has_segment = m.has_segment }

abbrev pub first_weak : WeakBindSettings
first_weak = record { kind = 0; has_name = false; has_segment = false; is_own = false }

-- the settings after an opcode with its immediate
abbrev pub weak_after : (opcode imm : ℕ) → WeakBindSettings → WeakBindSettings
weak_after opcode imm m = record {
  kind = if opcode == 0x50 then imm else m.kind;
  has_name = if gives_name opcode then true else m.has_name;
  has_segment = if gives_segment opcode then true else m.has_segment;
  is_own = if opcode == 0x40 then is_own imm else false;
}

-- a name that the image itself defines, or a bind
abbrev pub weak_made : Input → Bind → WeakBindSettings → Result WeakBind Fault
weak_made x b m = if m.is_own then Ok (strong_name b.name) else weak_bind_of x (set_now m) b

abbrev pub weak_rules : Rules WeakBindSettings WeakBind
weak_rules = record {
  first = λ is_lazy. first_weak;
  set = λ byte m. weak_after (bit_and byte 0xf0) (bit_and byte 0x0f) m;
  read = weak_opcode_at;
  makes = weak_made;
}

abbrev pub weak_bind_view : declared.WeakBind → WeakBind
weak_bind_view (variants.Strong name) = strong_name name.now
weak_bind_view (variants.Bind binding) = weakly_bound (binding_view binding)

abbrev pub weak_bind_read : Result (declared.WeakBind) Error → Result WeakBind Fault
weak_bind_read = item_read weak_bind_view fault_of

-- the rows that are left, up to the first fault
abbrev pub weak_binds_left : WeakBindIterator → List (Result WeakBind Fault)
weak_binds_left it = items_left weak_rules it.stream

-- the number of opcodes left to read
abbrev pub weak_reads_left : WeakBindIterator → ℕ
weak_reads_left it = opcodes_left weak_rules it.stream

-- it has ended: nothing is left, and nothing comes any more
abbrev pub HasEndedWeakBinds : WeakBindIterator → Type 0
HasEndedWeakBinds it = HasEnded weak_rules it.stream
