use Rattle.std.proofs.Common.{◌++◌, List, map, subst}
use Rattle.std.specs.Prelude.{OnOk}
use Rattle.std.specs.Io.KnownBytes.{Appends}
use Rattle.mach_cli.specs.Fields.{FieldView, field_view}
use Rattle.machinfo.specs.PartFields.{section_members}
use Rattle.machinfo.proofs.sections.CountedSectionsItemList.write_item.Goals as goal

pub returns : goal.returns
returns g c =
    let written = λ (fields : List FieldView). OnOk c.write_both.result
    (Appends (g.O.Write.contents c.args.out.now) (g.O.Write.contents c.write_both.new.out) (g.F.FieldsForm.fields_text fields)) in
    subst (λ (stubs : List FieldView). written (section_members c.args.row.now ++ stubs)) c.stub_fields-stubs.ensures
    (subst (λ (front : List FieldView). written (front ++ map field_view c.stub_fields-stubs.result)) c.section_fields.ensures c.write_both.ensures)
