use Rattle.std.proofs.Common.{subst}
use Rattle.std.specs.Io.KnownBytes.{Appends}
use Rattle.mach_cli.specs.Fields.{FieldView, pair_field, value_view}
use Rattle.mach_cli.specs.RecordFields.{shown_left}
use Rattle.mach_cli.proofs.RecordWritten.{continues_end, continues_init, continues_on}
use Rattle.mach_cli.proofs.record_fields.print_record_pairs.Goals as goal

pub fields-init : goal.fields-init
fields-init g c = continues_init pair_field (shown_left c.args.shown) (g.O.Write.contents c.args.out.now)

pub fields-preserved : goal.fields-preserved
fields-preserved g c =
    let middle = g.O.Write.contents c.fields.out in
    let new = g.O.Write.contents c.print_pair.new.out in
    continues_on pair_field (shown_left c.args.shown) (shown_left c.fields.shown) (shown_left c.next_field.new.self)
    (c.in-Some.name.now, value_view c.in-Some.value) (g.O.Write.contents c.args.out.now) middle new c.fields.invariant c.in-Some.ensures
    (subst (λ (f : FieldView). Appends middle new (pair_field f)) c.of_object.ensures c.in_ok-print_pair.ensures)

pub returns : goal.returns
returns g c =
    continues_end pair_field (shown_left c.args.shown) (shown_left c.fields.shown) (g.O.Write.contents c.args.out.now) (g.O.Write.contents c.fields.out)
    c.fields.invariant c.in_default.ensures
