use Rattle.std.proofs.Common.{◌++◌, map, take}
use Rattle.std.specs.Io.KnownBytes.{Appends}
use Rattle.std.specs.List.{flat_map}
use Rattle.mach_cli.specs.Fields.{column_text, field_view}
use Rattle.mach_cli.proofs.fields.print_columns.Given as goal

abbrev pub invariant-columns : goal.invariant-columns
invariant-columns g l =
    Appends (g.O.Write.contents l.fn.out) (g.O.Write.contents l.out)
    (flat_map (column_text (map field_view l.fields ++ map field_view l.others)) (take l.column-index l.columns))
