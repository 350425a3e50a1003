use Rattle.std.proofs.Common.{◌≡◌, ◌++◌, ℕ, List, Result}
use Rattle.mach_base.specs.Fault.{Fault}
use Rattle.mach_load.specs.TablesLeft.{starts_left}
use Rattle.goblin_mach.proofs.NearestItems.{StartsSoFar}
use Rattle.goblin_mach.proofs.macho.nearest.starts_around.Given as goal

abbrev pub invariant-starts : goal.invariant-starts
invariant-starts l =
    (front : List (Result ℕ Fault)) × (starts_left l.fn.starts ≡ front ++ starts_left l.item-iterator) × StartsSoFar front l.address l.begin
