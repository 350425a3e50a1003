-- The rules of rebases, and what is left of an iterator over them. Callers don't need it: the contract of `iter` says that
-- the items at the start are those of the definitions.
use Rattle.std.specs.Prelude.{◌==◌, ◌≡◌, ◌-◌, ◌^◌, ◌++◌, ℕ, List, min, true, false, Result, if◌then◌else◌, bit_and}
use Rattle.mach_base.specs.Fault.{Fault, fault_of}
use Rattle.mach_base.specs.declared.error.Error.{Error}
use Rattle.mach_base.specs.declared.context.Endian.{Endian}
use Rattle.mach_base.specs.declared.context.Endian.TheVariants.{Little}
use Rattle.mach_parts.specs.Segment.{SegmentView}
use Rattle.mach_parts.specs.PointerSigning.{auth_option_view}
use Rattle.mach_dyld.specs.Machine.{Rules, HasEnded, items_left, item_read, opcodes_left}
use Rattle.mach_dyld.specs.RebaseRuns.{run_left}
use Rattle.mach_dyld.specs.Rebases.{Rebase, RebaseSet, gives_rebase_segment, rebase_of, rebase_opcode_at}
use Rattle.mach_dyld.specs.declared.rebases.Rebase as declared
use Rattle.mach_dyld.specs.declared.rebases.Rebasing.{Rebasing}
use Rattle.mach_dyld.specs.declared.rebases.OpcodeRebaseIterator.{OpcodeRebaseIterator}

abbrev pub rebase_set_now : Rebasing → RebaseSet
rebase_set_now m = record { kind = m.kind; has_segment = m.has_segment }

-- the settings at the start of a stream
abbrev pub first_rebasing : Endian → Rebasing
first_rebasing le = record { le = le; kind = 0; has_segment = false }

-- the settings after an opcode with its immediate
abbrev pub rebasing_after : (opcode imm : ℕ) → Rebasing → Rebasing
rebasing_after opcode imm m = record {
  le = m.le;
  kind = if opcode == 0x10 then imm else m.kind;
  has_segment = if gives_rebase_segment opcode then true else m.has_segment;
}

abbrev pub rebase_rules : Rules Rebasing Rebase
rebase_rules = record {
  first = λ is_lazy. first_rebasing Little;
  set = λ byte m. rebasing_after (bit_and byte 0xf0) (bit_and byte 0x0f) m;
  read = rebase_opcode_at;
  makes = λ x b m. rebase_of x m.le (rebase_set_now m) b;
}

abbrev pub rebase_view : declared.Rebase → Rebase
rebase_view r = record {
  segment = r.segment;
  offset = r.offset;
  address = r.address;
  target = r.target;
  kind = r.kind;
  auth = auth_option_view r.auth;
}

abbrev pub rebase_read : Result (declared.Rebase) Error → Result Rebase Fault
rebase_read = item_read rebase_view fault_of

-- the rebases that are left, up to the first fault: those that were checked, and those of the opcodes after them
abbrev pub opcode_rebases_left : OpcodeRebaseIterator → List (Result Rebase Fault)
opcode_rebases_left it = run_left it.run ++ items_left rebase_rules it.stream

-- the number of opcodes left to read
abbrev pub rebase_reads_left : OpcodeRebaseIterator → ℕ
rebase_reads_left it = opcodes_left rebase_rules it.stream

-- it has ended: nothing is left, and nothing comes any more
pub record HasEndedRebases (it : OpcodeRebaseIterator) : Type 0 where
  pub run : it.run.left ≡ 0
  pub stream : HasEnded rebase_rules it.stream

-- the highest offset at which a segment holds a pointer whose address fits into 64 bits
abbrev pub highest_rebase : ℕ → SegmentView → ℕ
highest_rebase pointer s = min (s.command.vmsize - pointer) (2 ^ 64 - 1 - s.command.vmaddr)
