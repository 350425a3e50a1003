use Rattle.std.proofs.Common.{◌∙◌, ℕ, List, append-nil, subst, sym}
use Rattle.std.specs.Prelude.{OnOk}
use Rattle.std.specs.Io.KnownBytes.{Appends}
use Rattle.mach_cli.specs.Fields.{fields_line}
use Rattle.machfixups.specs.RowFields.{bind_fields}
use Rattle.machfixups.specs.Rows.{bind_view, place_view}
use Rattle.machfixups.proofs.BindLines.{same_bind_line}
use Rattle.machfixups.proofs.fields.write_line.Goals as goal

pub returns-in-Bind : goal.returns-in-Bind
returns-in-Bind g c =
    let place = place_view c.in-At.place in
    let bind = bind_view c.in-Bind.bind in
    let raw = c.in-At.raw in
    let old = g.O.Write.contents c.args.out.now in
    let new = g.O.Write.contents c.write_bind.new.out in
    let same = same_bind_line place bind raw ∙ sym (append-nil (fields_line (bind_fields place bind raw))) in
    rw (c.in-At.is, c.in-Bind.is) (subst (λ (text : List ℕ). OnOk c.write_bind.result (Appends old new text)) same c.write_bind.ensures)

pub returns-in-Rebase : goal.returns-in-Rebase
returns-in-Rebase g c = rw (c.in-At.is, c.in-Rebase.is) c.write_rebase.ensures
