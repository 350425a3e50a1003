use Rattle.std.proofs.Common.{map}
use Rattle.mach_cli.specs.Fields.{column_of}
use Rattle.mach_cli.proofs.Columns.{IsSpanned}
use Rattle.mach_cli.proofs.fields.spans.spans_of.Given as goal

abbrev pub invariant-fields : goal.invariant-fields
invariant-fields l = IsSpanned (map column_of l.fields) l.index l.starts l.ends
