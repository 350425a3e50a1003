use Rattle.std.proofs.Common.{List, ℕ, OnOk, map, subst, sym}
use Rattle.std.specs.Io.KnownBytes.{Appends}
use Rattle.mach_cli.specs.Fields.{field_view}
use Rattle.mach_cli.specs.RecordFields.{shown_left}
use Rattle.mach_cli.proofs.RecordWritten.{line_without_record}
use Rattle.mach_cli.proofs.fields.LineFieldsForm.write_record.Goals as goal

pub returns : goal.returns
returns g c =
    subst (λ (t : List ℕ). OnOk c.print_columns.result (Appends (g.O.Write.contents c.args.out.now) (g.O.Write.contents c.print_columns.new.out) t))
    (sym (line_without_record (field_view c.args.first.now) (map field_view c.args.fields.now) (shown_left c.args._shown))) c.print_columns.ensures
