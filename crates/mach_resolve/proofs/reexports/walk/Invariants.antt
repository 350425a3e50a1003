use Rattle.std.proofs.Common.{◌+◌, ◌-◌, ◌*◌, ◌^◌, length, map, reverse}
use Rattle.std.specs.Prelude.{option_map}
use Rattle.mach_resolve.specs.ResolveViews.{input_views, edge_view}
use Rattle.mach_resolve.proofs.Walks.{Holds}
use Rattle.mach_resolve.proofs.reexports.walk.Given as goal

abbrev pub invariant-edges : goal.invariant-edges
invariant-edges g l =
    Holds (input_views l.files) (reverse (map edge_view l.fn.starts.items)) (reverse (map edge_view l.left.items))
    (record { places = l.places.items; gap = option_map edge_view l.gap }) l.is_met.items

abbrev pub decreases-edges : goal.decreases-edges
decreases-edges g l = 2 ^ 64 * (2 ^ 64 - length l.places.items) + length l.left.items
