-- The lists of rebases, binds and fixups of the image that opens at an offset, by the bytes.
use Rattle.std.specs.Prelude.{◌≡◌, ℕ, List, Result}
use Rattle.mach_base.specs.Context.{pointer_size}
use Rattle.mach_base.specs.Fault.{Fault}
use Rattle.mach_parts.specs.Bindings.{Binding}
use Rattle.mach_chained.specs.Fixups.{Fixup}
use Rattle.mach_dyld.specs.Rebases.{Rebase}
use Rattle.mach_dyld.specs.WeakBinds.{WeakBind}
use Rattle.goblin_mach.specs.Bindings.{AreOpcodeBindings}
use Rattle.goblin_mach.specs.Facts.{OfImage, HasFixups, HasSegments}
use Rattle.goblin_mach.specs.ImageStreams.{AreRebasesByOpcodes, rebase_stream_in}
use Rattle.goblin_mach.specs.StreamFacts.{HasWeakBinds}
use Rattle.goblin_mach.specs.Subjects.{binds_in, libs_in, lossy_segments_in}
use Rattle.machfixups.specs.StoredPointers.{PointerSource}

-- its rebases by opcodes one at a time, over its segments, up to the first fault
abbrev pub HasOpcodeRebases : List ℕ → ℕ → List (Result Rebase Fault) → Type 0
HasOpcodeRebases bytes o items =
    OfImage bytes o (λ ctx cs. AreRebasesByOpcodes (rebase_stream_in bytes cs) ctx.le (pointer_size ctx.container) (lossy_segments_in ctx bytes cs) items)

-- its binds by opcodes one at a time, over its libraries and its segments, up to the first fault
abbrev pub HasOpcodeBindings : List ℕ → ℕ → List (Result Binding Fault) → Type 0
HasOpcodeBindings bytes o items =
    OfImage bytes o (λ ctx cs. AreOpcodeBindings (binds_in bytes cs) (pointer_size ctx.container) (libs_in bytes cs) (lossy_segments_in ctx bytes cs) items)

-- the rebases, binds and weak binds of an image's opcodes, the fixups of its chains, and what the pointers of these are read from
pub record PointerLists : Type 0 where
  pub rebases : List (Result Rebase Fault)
  pub bindings : List (Result Binding Fault)
  pub weak_binds : List (Result WeakBind Fault)
  pub fixups : List (Result Fixup Fault)
  pub source : PointerSource

-- these are those lists of the image at an offset
pub record HasPointerLists (bytes : List ℕ) (o : ℕ) (lists : PointerLists) : Type 0 where
  pub rebases : HasOpcodeRebases bytes o lists.rebases
  pub bindings : HasOpcodeBindings bytes o lists.bindings
  pub weak_binds : HasWeakBinds bytes o lists.weak_binds
  pub fixups : HasFixups bytes o lists.fixups
  pub segments : HasSegments bytes o lists.source.segments
  pub le : OfImage bytes o (λ ctx cs. lists.source.le ≡ ctx.le)
