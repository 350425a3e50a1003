use Rattle.std.proofs.Common.{ℕ, List, Option}
use Rattle.mach_base.specs.Fault.{Fault}
use Rattle.mach_cli.specs.PartsOf.{parts_left, shown_items}
use Rattle.machsign.specs.Entitlements.{EntitlesItems, RefusesItems}
use Rattle.machsign.proofs.entitlements.first_in.Given as goal

abbrev pub invariant-items : goal.invariant-items
invariant-items g l = record {
  found : (found : Option (List ℕ)) → EntitlesItems l.cpu (parts_left l.item-iterator) found → EntitlesItems l.cpu (shown_items l.bytes) found;
  refused : (f : Fault) → RefusesItems l.cpu (parts_left l.item-iterator) f → RefusesItems l.cpu (shown_items l.bytes) f;
}
