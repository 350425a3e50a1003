-- Positions in the rebases of opcodes, as numbers, and the rebases after them.
use Rattle.std.specs.Prelude.{List, Result, if◌then◌else◌}
use Rattle.mach_base.specs.Fault.{Fault}
use Rattle.mach_base.specs.Number.{says_yes}
use Rattle.mach_base.specs.declared.context.Endian.{Endian}
use Rattle.mach_base.specs.declared.context.Endian.TheVariants as order
use Rattle.mach_dyld.specs.BindCursors.{state_in}
use Rattle.mach_dyld.specs.Machine as machine
use Rattle.mach_dyld.specs.Machine.{items_left, items_of}
use Rattle.mach_dyld.specs.Streams.{Input, Range}
use Rattle.mach_dyld.specs.declared.imports.cursor.BindCursor.{BindCursor}
use Rattle.mach_dyld.specs.Rebases.{Rebase}
use Rattle.mach_dyld.specs.RebasesLeft.{rebase_rules}
use Rattle.mach_dyld.specs.declared.rebases.Rebasing.{Rebasing}
use Rattle.mach_c_places.specs.declared.rebases.RebaseWalk.{RebaseWalk}

-- the byte order of a cursor
abbrev pub order_in : BindCursor → Endian
order_in c = if says_yes c.ordinal then order.Big else order.Little

-- the settings in addition to those of a bind
abbrev pub rebasing_in : BindCursor → Rebasing
rebasing_in c = record { le = order_in c; kind = c.kind; has_segment = says_yes c.has_segment }

-- the rebases after a cursor of a range
abbrev pub opcode_rebases_after : Input → Range → BindCursor → List (Result Rebase Fault)
opcode_rebases_after x r c = items_of rebase_rules x r (rebasing_in c) (state_in x.bytes c)

-- ---- what is left for a walk

abbrev pub rebase_walk_left : RebaseWalk → List (Result Rebase Fault)
rebase_walk_left it = items_left rebase_rules it.stream

-- it reads this
abbrev pub IsOverRebases : Input → Range → RebaseWalk → Type 0
IsOverRebases x r it = machine.IsOver x r it.stream

-- it has ended: nothing is left, now and later
abbrev pub HasEndedRebaseWalk : RebaseWalk → Type 0
HasEndedRebaseWalk it = machine.HasEnded rebase_rules it.stream
