use Rattle.std.proofs.Common.{◌∷◌, List, ℕ, OnOk, flat_map, map, subst, sym}
use Rattle.std.proofs.lemmas.Result.{on_ok_weaker}
use Rattle.std.specs.Io.KnownBytes.{Appends}
use Rattle.mach_base.proofs.Written.{Appends-both}
use Rattle.mach_cli.specs.Fields.{field_view, fields_pairs, named_value, pair_field}
use Rattle.mach_cli.specs.RecordFields.{shown_left}
use Rattle.mach_cli.proofs.RecordWritten.{pairs_with_record}
use Rattle.mach_cli.proofs.fields.PairsFieldsForm.write_record.Goals as goal

pub returns : goal.returns
returns g c =
    let first = field_view c.args.first.now in
    let fields = map field_view c.args.fields.now in
    let left = shown_left c.args.shown in
    let old = g.O.Write.contents c.args.out.now in
    let middle = g.O.Write.contents c.write_both.new.out in
    let new = g.O.Write.contents c.print_record_pairs.new.out in
    subst (λ (t : List ℕ). OnOk c.print_record_pairs.result (Appends old new t)) (sym (pairs_with_record first fields left))
    (on_ok_weaker c.print_record_pairs.result
    (Appends-both old middle new (fields_pairs (first ∷ fields)) (flat_map pair_field (map named_value left)) c.in_ok-write_both.ensures)
    c.print_record_pairs.ensures)
