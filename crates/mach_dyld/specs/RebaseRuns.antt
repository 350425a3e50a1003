-- Rebases that follow each other in one segment, as an iterator keeps them. Callers don't need it: the contract of `iter`
-- says that the items at the start are those of the definitions.
use Rattle.std.specs.Prelude.{◌+◌, ◌%◌, ◌^◌, ℕ, zero, suc, List, [], ◌∷◌, map, None, Result, Ok, if◌then◌else◌}
use Rattle.mach_base.specs.Fault.{Fault}
use Rattle.mach_dyld.specs.Rebases.{Rebase, memory_number}
use Rattle.mach_dyld.specs.declared.rebases.rebase_run.Run.{Run}
use Rattle.mach_dyld.specs.declared.rebases.rebase_run.Turn.{Turn}

-- the number of bytes that are corrected
abbrev pub turn_width : Turn → ℕ
turn_width t = if t.is_wide then 8 else 4

-- the rebase of a turn
abbrev pub turn_rebase : Turn → Rebase
turn_rebase t = record {
  segment = t.segment;
  offset = t.offset;
  address = t.address;
  target = memory_number t.le (turn_width t) t.bytes.now t.offset;
  kind = t.kind;
  auth = None;
}

-- the next turn
unfoldable pub turned : Turn → Turn
turned t = record t { offset = (t.offset + t.stride) % 2 ^ 64; address = (t.address + t.stride) % 2 ^ 64 }

-- the rebases of `count` turns
unfoldable pub turn_rebases : Turn → ℕ → List Rebase
turn_rebases t zero = []
turn_rebases t (suc k) = turn_rebase t ∷ turn_rebases (turned t) k

-- the rebases that are left
abbrev pub run_left : Run → List (Result Rebase Fault)
run_left r = map Ok (turn_rebases r.turn r.left)
