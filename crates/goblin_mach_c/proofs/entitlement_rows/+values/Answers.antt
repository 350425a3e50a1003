use Rattle.std.proofs.Common.{◌≡◌, ◌∙◌, suc, refl, ap, arith}
use Rattle.std.proofs.lemmas.Option.{IfSome_then}
use Rattle.std.specs.Option.{option_map}
use Rattle.mach_signature.specs.EntitlementReads.{rest_or}
use Rattle.mach_signature.specs.EntitlementSpans.{SpanView, spelled_text}
use Rattle.mach_signature.specs.EntitlementViews.{seen_span, seen_value}
use Rattle.mach_signature.proofs.EntitlementSteps.{entry_parts, others_read, whole_end}
use Rattle.goblin_mach_c.proofs.AddedRows.{adds_group, adds_none, entry_added, group_read}
use Rattle.goblin_mach_c.proofs.entitlement_rows.+values.Goals as goal

pub add_value-returns-in-Group : goal.add_value-returns-in-Group
add_value-returns-in-Group t c v is =
    let g = c.in-Group.group in
    let s = seen_span c.in-Group.values in
    let r = group_read c.args.steps g s v (rw c.in-Group.is at is) in
    let row = rw c.in-Group.is at c.in_ok-add_row.ensures in
    IfSome_then c.add_values.result (c.add_values.ensures r.values r.are)
    (λ end p. adds_group c.args.depth (spelled_text (seen_span c.args.key)) g s (seen_span end) v r.values c.args.out.now c.add_row.new.out
    c.add_values.new.out r.whole p.0 row p.1)

pub add_values-returns-in-End : goal.add_values-returns-in-End
add_values-returns-in-End t c x is =
    let more : c.args.steps ≡ suc c.in_ok-less.less = omega arith in
    let front = rw c.in-End.is at c.in-Ok.ensures in
    rw (whole_end c.args.steps c.in_ok-less.less c.args.group (seen_span c.args.values) x more is (seen_span c.in-End.rest) front)
    (refl, adds_none c.args.out.now)

pub add_values-returns-in_ok-end-in-Entry : goal.add_values-returns-in_ok-end-in-Entry
add_values-returns-in_ok-end-in-Entry t c x is =
    let more : c.args.steps ≡ suc c.in_ok-less.less = omega arith in
    let e = c.in-Entry.entry in
    let key = spelled_text (seen_span e.key) in
    let rest = option_map seen_span e.rest in
    let front = rw c.in-Entry.is at c.in-Ok.ensures in
    let p = entry_parts c.args.steps c.in_ok-less.less c.args.group (seen_span c.args.values) x more is key (seen_value e.value) rest front in
    let first = c.in_ok-end-in-Entry.ensures p.first p.is_first in
    let place = c.rest_or.ensures ∙ ap (λ (end : SpanView). rest_or rest end) first.0 in
    let others = others_read c.in_ok-less.less c.args.group (seen_span c.rest_or.result) (rest_or rest p.first.1) p.others place p.are_others in
    entry_added c.args.depth key p.first.0 p.others x c.args.out.now c.add_value.new.out c.add_values.new.out c.add_values.result p.whole first.1
    (c.add_values.ensures p.others others)
