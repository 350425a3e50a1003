use Rattle.std.proofs.Common.{◌≡◌, ◌∙◌, Option, true, false, length, nat_lt, sym, ap, rules, tests}
use Rattle.std.specs.Option.{option_map}
use Rattle.mach_signature.specs.EntitlementAgreement.{finish_in, most_bytes}
use Rattle.mach_signature.specs.EntitlementSpans.{SpanView}
use Rattle.mach_signature.specs.EntitlementViews.{seen_span}
use Rattle.mach_signature.proofs.Entitled.{too_long, not_started, not_ended, not_finished, read_whole}
use Rattle.mach_signature.proofs.entitlements.agreement.readable_values.Goals as goal

pub returns-then-bytes-gt-MOST_BYTES : goal.returns-then-bytes-gt-MOST_BYTES
returns-then-bytes-gt-MOST_BYTES c =
    let long : nat_lt most_bytes (length c.args.bytes.now) ≡ true = search (rules, tests) in
    too_long c.args.notation c.args.bytes.now long

pub returns-in_default : goal.returns-in_default
returns-in_default c =
    let short : nat_lt most_bytes (length c.args.bytes.now) ≡ false = search (rules, tests) in
    not_started c.args.notation c.args.bytes.now short _ c.in_default.ensures

pub returns-in_default-values_end : goal.returns-in_default-values_end
returns-in_default-values_end c =
    let short : nat_lt most_bytes (length c.args.bytes.now) ≡ false = search (rules, tests) in
    not_ended c.args.notation c.args.bytes.now short (seen_span c.in-Ok.values, option_map seen_span c.in-Ok.rest) c.in-Ok.ensures _
    c.in_default-values_end.ensures

pub returns-in-Err : goal.returns-in-Err
returns-in-Err c =
    let short : nat_lt most_bytes (length c.args.bytes.now) ≡ false = search (rules, tests) in
    let start : SpanView × Option SpanView = (seen_span c.in-Ok.values, option_map seen_span c.in-Ok.rest) in
    let end = seen_span c.in-Ok-values_end.end in
    let place = ap (λ (s : SpanView). finish_in c.args.notation s.bytes) (sym c.rest_or.ensures) in
    not_finished c.args.notation c.args.bytes.now short start c.in-Ok.ensures end _ c.in-Ok-values_end.ensures (place ∙ c.in-Err.ensures)

pub returns-in-Ok-finish_in : goal.returns-in-Ok-finish_in
returns-in-Ok-finish_in c =
    let short : nat_lt most_bytes (length c.args.bytes.now) ≡ false = search (rules, tests) in
    let start : SpanView × Option SpanView = (seen_span c.in-Ok.values, option_map seen_span c.in-Ok.rest) in
    let end = seen_span c.in-Ok-values_end.end in
    let place = ap (λ (s : SpanView). finish_in c.args.notation s.bytes) (sym c.rest_or.ensures) in
    read_whole c.args.notation c.args.bytes.now short start c.in-Ok.ensures end _ c.in-Ok-values_end.ensures (place ∙ c.in-Ok-finish_in.ensures)
