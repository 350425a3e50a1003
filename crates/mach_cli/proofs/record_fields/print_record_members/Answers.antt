use Rattle.std.proofs.Common.{subst}
use Rattle.std.specs.Io.KnownBytes.{Appends}
use Rattle.mach_cli.specs.Fields.{FieldView, comma_member, value_view}
use Rattle.mach_cli.specs.RecordFields.{shown_left}
use Rattle.mach_cli.proofs.RecordWritten.{continues_end, continues_init, continues_on}
use Rattle.mach_cli.proofs.record_fields.print_record_members.Goals as goal

pub fields-init : goal.fields-init
fields-init g c = continues_init comma_member (shown_left c.args.shown) (g.O.Write.contents c.args.out.now)

pub fields-preserved : goal.fields-preserved
fields-preserved g c =
    let middle = g.O.Write.contents c.fields.out in
    let new = g.O.Write.contents c.print_next_member.new.out in
    continues_on comma_member (shown_left c.args.shown) (shown_left c.fields.shown) (shown_left c.next_field.new.self)
    (c.in-Some.name.now, value_view c.in-Some.value) (g.O.Write.contents c.args.out.now) middle new c.fields.invariant c.in-Some.ensures
    (subst (λ (f : FieldView). Appends middle new (comma_member f)) c.of_object.ensures c.in_ok-print_next_member.ensures)

pub returns : goal.returns
returns g c =
    continues_end comma_member (shown_left c.args.shown) (shown_left c.fields.shown) (g.O.Write.contents c.args.out.now) (g.O.Write.contents c.fields.out)
    c.fields.invariant c.in_default.ensures
