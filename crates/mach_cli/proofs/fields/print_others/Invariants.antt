use Rattle.std.proofs.Common.{map, take}
use Rattle.std.specs.Io.KnownBytes.{Appends}
use Rattle.std.specs.List.{flat_map}
use Rattle.mach_cli.specs.Fields.{comma_member, field_view}
use Rattle.mach_cli.proofs.fields.print_others.Given as goal

abbrev pub invariant-fields : goal.invariant-fields
invariant-fields g l =
    Appends (g.O.Write.contents l.fn.out) (g.O.Write.contents l.out) (flat_map comma_member (map field_view (take l.field-index l.fields)))
