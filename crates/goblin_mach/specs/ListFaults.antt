-- The rules on the lists that an image returns one item at a time (`mach-o/loader.h`, the constants BIND_OPCODE and
-- REBASE_OPCODE, LC_FUNCTION_STARTS). The lists are: what dyld binds by the opcodes of the non-lazy and the lazy stream, as
-- `MachO::opcode_bindings` returns it; what it rebases by opcodes; what it binds weakly; and the function starts. None of
-- them may have a fault; an ordinal past the last library is one.
use Rattle.std.specs.Prelude.{◌≡◌, ℕ, Bool, List, [], ◌∷◌, ◌++◌, Result, if◌then◌else◌}
use Rattle.mach_base.specs.Context.{pointer_size}
use Rattle.mach_base.specs.Fault.{Fault}
use Rattle.mach_parts.specs.Bindings.{Binding}
use Rattle.mach_dyld.specs.BindingFaults.{has_fault}
use Rattle.mach_dyld.specs.Rebases.{Rebase}
use Rattle.mach_dyld.specs.WeakBinds.{WeakBind}
use Rattle.goblin_mach.specs.Bindings.{AreOpcodeBindings}
use Rattle.goblin_mach.specs.Fixups.{base_of}
use Rattle.goblin_mach.specs.ImageFacts.{Facts}
use Rattle.goblin_mach.specs.ImageStreams.{AreImageWeakBinds, AreRebasesByOpcodes, rebase_stream_in, weak_stream_in}
use Rattle.goblin_mach.specs.Tables.{AreStartsAt, starts_place_in}
use Rattle.mach_layout.specs.Laid.{Laid}
use Rattle.mach_layout.specs.Lists.{function_starts_fault, opcodes_fault}
use Rattle.mach_layout.specs.declared.fault.LayoutFault.{LayoutFault}
use Rattle.mach_layout.specs.declared.fault.Part.TheVariants as part
use Rattle.mach_layout.specs.declared.fault.Rule.TheVariants as rule

-- what the rules read of all facts of an image
abbrev pub laid_by : Facts → Laid
laid_by f = record { bytes = f.bytes; ctx = f.ctx; header = f.header; commands = f.commands }

-- a fault, if it occurs
abbrev pub reported_where : Bool → LayoutFault → List LayoutFault
reported_where occurs fault = if occurs then fault ∷ [] else []

-- these are the faults of its lists: one of each list that has one
pub record AreListFaults (f : Facts) (list : List LayoutFault) : Type 0 where
  pub bindings : List (Result Binding Fault)
  pub rebases : List (Result Rebase Fault)
  pub weak_binds : List (Result WeakBind Fault)
  pub starts : List (Result ℕ Fault)
  pub are_bindings : AreOpcodeBindings f.binds (pointer_size f.ctx.container) f.libs f.segments bindings
  pub are_rebases : AreRebasesByOpcodes (rebase_stream_in f.bytes f.commands) f.ctx.le (pointer_size f.ctx.container) f.segments rebases
  pub are_weak_binds : AreImageWeakBinds (weak_stream_in f.bytes f.commands) (pointer_size f.ctx.container) f.segments weak_binds
  pub are_starts : AreStartsAt f.bytes (starts_place_in f.commands) (base_of f.segments) starts
  pub reported : list
      ≡ reported_where (has_fault bindings) (opcodes_fault rule.Binds part.Binds (laid_by f))
      ++ reported_where (has_fault rebases) (opcodes_fault rule.Rebases part.RebaseOpcodes (laid_by f))
      ++ reported_where (has_fault weak_binds) (opcodes_fault rule.WeakBinds part.WeakBindOpcodes (laid_by f))
      ++ reported_where (has_fault starts) (function_starts_fault (laid_by f))
