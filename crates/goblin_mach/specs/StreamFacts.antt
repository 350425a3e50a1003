-- What the bytes say of the rebases and the weak binds of the image that opens at a place, and what holds of them.
use Rattle.std.specs.Prelude.{◌≡◌, ◌↔◌, ℕ, List, [], Some, None, Result, Ok}
use Rattle.mach_base.specs.Among.{IsAmong}
use Rattle.mach_base.specs.Context.{pointer_size}
use Rattle.mach_base.specs.Fault.{Fault}
use Rattle.mach_parts.specs.Bindings.{Binding}
use Rattle.mach_chained.specs.Bindings.{binding_in}
use Rattle.mach_chained.specs.Fixups.{FixupInput, Fixup}
use Rattle.mach_chained.specs.Pointers.{value}
use Rattle.mach_dyld.specs.Rebases.{Rebase}
use Rattle.mach_dyld.specs.WeakBinds.{WeakBind}
use Rattle.goblin_mach.specs.Facts.{OfImage, HasFixups}
use Rattle.goblin_mach.specs.Fixups.{chained_in}
use Rattle.goblin_mach.specs.ImageStreams.{AreImageRebases, AreImageWeakBinds, rebase_in, rebase_stream_in, rebases_among, weak_stream_in}
use Rattle.goblin_mach.specs.Subjects.{lossy_segments_in}

-- what dyld rebases in it, over its segments: by its opcodes, then by its chains, up to the first fault
abbrev pub HasRebases : List ℕ → ℕ → List (Result Rebase Fault) → Type 0
HasRebases bytes o items =
    OfImage bytes o (λ ctx cs. AreImageRebases (rebase_stream_in bytes cs) (chained_in ctx bytes cs) ctx.le (pointer_size ctx.container)
    (lossy_segments_in ctx bytes cs) items)

-- what it binds weakly
abbrev pub HasWeakBinds : List ℕ → ℕ → List (Result WeakBind Fault) → Type 0
HasWeakBinds bytes o items =
    OfImage bytes o (λ ctx cs. AreImageWeakBinds (weak_stream_in bytes cs) (pointer_size ctx.container) (lossy_segments_in ctx bytes cs) items)

-- no command names opcodes
abbrev pub HasNoOpcodes : List ℕ → ℕ → Type 0
HasNoOpcodes bytes o = OfImage bytes o (λ ctx cs. (rebase_stream_in bytes cs ≡ None) × (weak_stream_in bytes cs ≡ None))

-- ---- laws

-- an image has at most one list of rebases up to the first fault, and at most one of weak binds
abbrev pub HasOneListOfRebases : Type 0
HasOneListOfRebases =
    (bytes : List ℕ) (o : ℕ) (items others : List (Result Rebase Fault)) → HasRebases bytes o items → HasRebases bytes o others → items ≡ others

abbrev pub HasOneListOfWeakBinds : Type 0
HasOneListOfWeakBinds =
    (bytes : List ℕ) (o : ℕ) (items others : List (Result WeakBind Fault)) → HasWeakBinds bytes o items → HasWeakBinds bytes o others → items ≡ others

-- an image without a command that names opcodes has no weak binds
abbrev pub HasNoWeakBindsThen : Type 0
HasNoWeakBindsThen = (bytes : List ℕ) (o : ℕ) (items : List (Result WeakBind Fault)) → HasNoOpcodes bytes o → HasWeakBinds bytes o items → items ≡ []

-- and its rebases are those among its fixups, in order, with the fixups' own fault
abbrev pub HasRebasesOfFixups : Type 0
HasRebasesOfFixups =
    (bytes : List ℕ) (o : ℕ) (items : List (Result Rebase Fault)) (fixups : List (Result Fixup Fault))
    → HasNoOpcodes bytes o → HasRebases bytes o items → HasFixups bytes o fixups → items ≡ rebases_among fixups

-- what a fixup gives among bindings and among rebases: it is a number and gives neither, or it gives exactly one of the two
pub data IsReportedOnce (x : FixupInput) (libs : List (List ℕ)) (f : Fixup) : Type 0 where
  reported_nowhere : (number : ℕ) → f.kind ≡ value number → rebase_in f ≡ None → binding_in x libs f ≡ None → IsReportedOnce x libs f
  reported_as_rebase : (r : Rebase) → rebase_in f ≡ Some r → binding_in x libs f ≡ None → IsReportedOnce x libs f
  reported_as_binding : (b : Result Binding Fault) → rebase_in f ≡ None → binding_in x libs f ≡ Some b → IsReportedOnce x libs f

abbrev pub EachIsReportedOnce : Type 0
EachIsReportedOnce = (x : FixupInput) (libs : List (List ℕ)) (f : Fixup) → IsReportedOnce x libs f

-- the rebases among some fixups are those that the fixups give, and no others
abbrev pub RebasesComeOfFixups : Type 0
RebasesComeOfFixups =
    (fixups : List (Result Fixup Fault)) (r : Rebase)
    → IsAmong (Ok r) (rebases_among fixups) ↔ ((f : Fixup) × IsAmong (Ok f) fixups × (rebase_in f ≡ Some r))
