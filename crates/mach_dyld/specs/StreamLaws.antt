-- Laws of all weak binds and rebases: a stream has one list of them, each follows from the instructions in order, and each
-- lies in its segment.
use Rattle.std.specs.Prelude.{◌≡◌, ℕ, List, [], ◌∷◌, ◌++◌, All, false, Result, IfOk, reverse}
use Rattle.mach_base.specs.Fault.{Fault}
use Rattle.mach_base.specs.declared.context.Endian.{Endian}
use Rattle.mach_dyld.specs.BindAddresses.{LiesWhole, LiesWholeInSome}
use Rattle.mach_dyld.specs.BindLast.{IsLast}
use Rattle.mach_dyld.specs.Bindings.{gives_name, gives_segment, kind_set_by, sets_in}
use Rattle.mach_dyld.specs.Streams.{Input, Range, Placed}
use Rattle.mach_dyld.specs.WeakBinds.{AreWeakBinds, WeakBind, last_weak_set, strong_name, weak_binds_at, weak_binds_in, weakly_bound}
use Rattle.mach_dyld.specs.Rebases.{AreOpcodeRebases, Rebase, gives_rebase_segment, last_rebase_set, rebase_kind_in, rebases_at, rebases_in}

-- a stream has at most one list of rows
abbrev pub StreamHasOneListOfWeakBinds : Type 0
StreamHasOneListOfWeakBinds =
    (x : Input) (r : Range) (ps qs : List Placed) (items others : List (Result WeakBind Fault)) → AreWeakBinds x r ps items → AreWeakBinds x r qs others
    → items ≡ others

abbrev pub StreamHasOneListOfRebases : Type 0
StreamHasOneListOfRebases =
    (x : Input) (le : Endian) (r : Range) (ps qs : List Placed) (items others : List (Result Rebase Fault))
    → AreOpcodeRebases x le r ps items → AreOpcodeRebases x le r qs others → items ≡ others

-- what looking back finds was set last in these instructions in order
pub record WeakSetsLast (bytes : List ℕ) (ps : List Placed) : Type 0 where
  pub kind : IsLast 0 (kind_set_by bytes) ps (last_weak_set bytes (reverse ps)).kind
  pub has_name : IsLast false (sets_in bytes gives_name) ps (last_weak_set bytes (reverse ps)).has_name
  pub has_segment : IsLast false (sets_in bytes gives_segment) ps (last_weak_set bytes (reverse ps)).has_segment

abbrev pub FindsLastWeakSet : Type 0
FindsLastWeakSet = (bytes : List ℕ) (ps : List Placed) → WeakSetsLast bytes ps

pub record RebaseSetsLast (bytes : List ℕ) (ps : List Placed) : Type 0 where
  pub kind : IsLast 0 (rebase_kind_in bytes) ps (last_rebase_set bytes (reverse ps)).kind
  pub has_segment : IsLast false (sets_in bytes gives_rebase_segment) ps (last_rebase_set bytes (reverse ps)).has_segment

abbrev pub FindsLastRebaseSet : Type 0
FindsLastRebaseSet = (bytes : List ℕ) (ps : List Placed) → RebaseSetsLast bytes ps

-- the last instruction of a list adds the rows found by looking back over the instructions before it
abbrev pub AddsWeakBinds : Type 0
AddsWeakBinds = (x : Input) (r : Range) (ps : List Placed) (p : Placed)
    → weak_binds_in x r (ps ++ p ∷ []) ≡ weak_binds_in x r ps ++ weak_binds_at x r (reverse ps) p

abbrev pub AddsRebases : Type 0
AddsRebases = (x : Input) (le : Endian) (r : Range) (ps : List Placed) (p : Placed)
    → rebases_in x le r (ps ++ p ∷ []) ≡ rebases_in x le r ps ++ rebases_at x le r (reverse ps) p

-- the pointer of a weak bind is in one of the segments
abbrev pub WeakBindLies : Input → WeakBind → Type 0
WeakBindLies x (strong_name name) = Unit {0}
WeakBindLies x (weakly_bound b) = LiesWholeInSome x.segments b.address x.pointer

abbrev pub WeakBindsLieIn : Type 0
WeakBindsLieIn = (x : Input) (r : Range) (ps : List Placed) (items : List (Result WeakBind Fault))
    → AreWeakBinds x r ps items → All (λ item. IfOk item (WeakBindLies x)) items

-- the pointer of a rebase is in its segment
abbrev pub RebasesLieIn : Type 0
RebasesLieIn = (x : Input) (le : Endian) (r : Range) (ps : List Placed) (items : List (Result Rebase Fault))
    → AreOpcodeRebases x le r ps items → All (λ item. IfOk item (λ b. LiesWhole x.segments b.segment b.address x.pointer)) items
