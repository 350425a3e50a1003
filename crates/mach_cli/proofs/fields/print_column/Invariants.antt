use Rattle.std.proofs.Common.{map, take}
use Rattle.std.specs.Io.KnownBytes.{Appends}
use Rattle.std.specs.List.{flat_map}
use Rattle.mach_cli.specs.Fields.{column_field, field_view}
use Rattle.mach_cli.proofs.fields.print_column.Given as goal

abbrev pub invariant-fields : goal.invariant-fields
invariant-fields g l =
    Appends (g.O.Write.contents l.fn.out) (g.O.Write.contents l.out) (flat_map (column_field l.column) (map field_view (take l.field-index l.fields)))
