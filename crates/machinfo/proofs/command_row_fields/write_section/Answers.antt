use Rattle.std.proofs.Common.{◌++◌, List, map, subst}
use Rattle.std.specs.Prelude.{OnOk}
use Rattle.std.specs.Io.KnownBytes.{Appends}
use Rattle.mach_cli.specs.Fields.{FieldView, field_view}
use Rattle.machinfo.specs.CommandRowFields.{section_head}
use Rattle.machinfo.proofs.command_row_fields.write_section.Goals as goal

pub returns-in-Narrow : goal.returns-in-Narrow
returns-in-Narrow g c =
    let written = λ (fields : List FieldView). OnOk c.write_both.result
    (Appends (g.O.Write.contents c.args.out.now) (g.O.Write.contents c.write_both.new.out) (g.F.FieldsForm.fields_text fields)) in
    let s = c.args.section.now in
    rw c.in-Narrow.is
    (subst (λ (shown : List FieldView). written (section_head s.command s.number ++ shown)) c.narrow_fields.ensures
    (subst (λ (head : List FieldView). written (head ++ map field_view c.narrow_fields.result)) c.section_head-head.ensures c.write_both.ensures))

pub returns-in-Wide : goal.returns-in-Wide
returns-in-Wide g c =
    let written = λ (fields : List FieldView). OnOk c.write_both-in-Wide.result
    (Appends (g.O.Write.contents c.args.out.now) (g.O.Write.contents c.write_both-in-Wide.new.out) (g.F.FieldsForm.fields_text fields)) in
    let s = c.args.section.now in
    rw c.in-Wide.is
    (subst (λ (shown : List FieldView). written (section_head s.command s.number ++ shown)) c.wide_fields.ensures
    (subst (λ (head : List FieldView). written (head ++ map field_view c.wide_fields.result)) c.section_head-head.ensures c.write_both-in-Wide.ensures))
