use Rattle.std.proofs.Common.{refl}
use Rattle.mach_cli.proofs.Arrays.{goes_init, goes_on}
use Rattle.mach_cli.proofs.json.array.print_objects.Goals as goal

pub rows-init : goal.rows-init
rows-init g c = goes_init c.args.limit _ _ (g.O.Write.contents c.args.out.now) refl

pub rows-preserved : goal.rows-preserved
rows-preserved g c =
    rw c.in-Some-checked_sub.ensures.1
    (goes_on c.args.limit g.L.Listing.text _ _ (g.L.Listing.left c.next_row.new.self) c.rows.left c.rows.whole c.in_ok-whole.field-0 c.rows.is_first
    c.in-Some.row _ _ _ c.rows.invariant c.in-Some.ensures c.in-Some-checked_sub.ensures.0 c.in_ok-whole.ensures.0 c.in_ok-whole.ensures.1)

pub rows-preserved-in_ok-whole : goal.rows-preserved-in_ok-whole
rows-preserved-in_ok-whole g c =
    rw c.in-Some-checked_sub.ensures.1
    (goes_on c.args.limit g.L.Listing.text _ _ (g.L.Listing.left c.next_row.new.self) c.rows.left c.rows.whole c.in_ok-whole.field-0 c.rows.is_first
    c.in-Some.row _ _ _ c.rows.invariant c.in-Some.ensures c.in-Some-checked_sub.ensures.0 c.in_ok-whole.ensures.0 c.in_ok-whole.ensures.1)
