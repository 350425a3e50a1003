use Rattle.std.proofs.Common.{length}
use Rattle.mach_cli.specs.Fields.{pair_field}
use Rattle.mach_cli.specs.RecordFields.{shown_left}
use Rattle.mach_cli.proofs.RecordWritten.{Continues}
use Rattle.mach_cli.proofs.record_fields.print_record_pairs.Given as goal

abbrev pub invariant-fields : goal.invariant-fields
invariant-fields g l = Continues pair_field (shown_left l.fn.shown) (shown_left l.shown) (g.O.Write.contents l.fn.out) (g.O.Write.contents l.out)

abbrev pub decreases-fields : goal.decreases-fields
decreases-fields g l = length (shown_left l.shown)
