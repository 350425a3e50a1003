use Rattle.std.proofs.Common.{List, subst}
use Rattle.std.specs.Prelude.{OnOk}
use Rattle.std.proofs.lemmas.Result.{on_ok_weaker}
use Rattle.std.specs.Io.KnownBytes.{Appends}
use Rattle.mach_base.proofs.Written.{Appends-both}
use Rattle.mach_cli.specs.Fields.{FieldView, fields_line}
use Rattle.machfixups.proofs.fields.write_rebase_ending.Goals as goal

pub returns : goal.returns
returns g c =
    let old = g.O.Write.contents c.args.out.now in
    let middle = g.O.Write.contents c.write_symbol.new.out in
    let new = g.O.Write.contents c.write.new.out in
    let over = λ (fields : List FieldView). OnOk c.write.result (Appends middle new (fields_line fields)) in
    on_ok_weaker c.write.result (λ last. Appends-both old middle new _ _ c.in_ok-write_symbol.ensures last)
    (subst over c.ending_fields.ensures c.write.ensures)
