use Rattle.std.proofs.Common.{◌≡◌, ◌∙◌, suc, sym, arith}
use Rattle.std.specs.Option.{option_map}
use Rattle.mach_signature.specs.EntitlementReads.{rest_or}
use Rattle.mach_signature.specs.EntitlementSpans.{spelled_text}
use Rattle.mach_signature.specs.EntitlementViews.{seen_span, seen_value}
use Rattle.mach_signature.specs.declared.entitlements.parts.Group.TheVariants.{Dictionary}
use Rattle.mach_signature.proofs.EntitlementSteps.{entry_parts, found_here, found_later, others_read, readable_front, readable_steps, whole_end}
use Rattle.mach_signature.proofs.entitlements.compare.+find.Goals as goal

pub returns-in_err-less : goal.returns-in_err-less
returns-in_err-less t c x is = readable_steps c.args.steps Dictionary (seen_span c.args.values) x (omega arith) is

pub returns-in_default : goal.returns-in_default
returns-in_default t c x is =
    let more : c.args.steps ≡ suc c.in_ok-less.less = omega arith in
    readable_front c.args.steps c.in_ok-less.less Dictionary (seen_span c.args.values) x more is _ c.in_default.ensures

pub returns-in-End : goal.returns-in-End
returns-in-End t c x is =
    let more : c.args.steps ≡ suc c.in_ok-less.less = omega arith in
    let front = rw c.in-End.is at c.in-Ok.ensures in
    rw (whole_end c.args.steps c.in_ok-less.less Dictionary (seen_span c.args.values) x more is (seen_span c.in-End.field-0) front) tt

pub returns-then-same_text : goal.returns-then-same_text
returns-then-same_text t c x is =
    let more : c.args.steps ≡ suc c.in_ok-less.less = omega arith in
    let e = c.in-Entry.entry in
    let front = rw c.in-Entry.is at c.in-Ok.ensures in
    let p = entry_parts c.args.steps c.in_ok-less.less Dictionary (seen_span c.args.values) x more is (spelled_text (seen_span e.key)) (seen_value e.value)
    (option_map seen_span e.rest) front in
    rw p.whole (found_here c.in_ok-less.less c.args.steps (spelled_text (seen_span c.args.key)) (spelled_text (seen_span e.key)) (seen_value e.value)
    p.first p.others.0 more p.is_first (sym c.same_text.ensures ∙ c.if-same_text.true))

pub returns-else-same_text : goal.returns-else-same_text
returns-else-same_text t c x is =
    let more : c.args.steps ≡ suc c.in_ok-less.less = omega arith in
    let e = c.in-Entry.entry in
    let front = rw c.in-Entry.is at c.in-Ok.ensures in
    let p = entry_parts c.args.steps c.in_ok-less.less Dictionary (seen_span c.args.values) x more is (spelled_text (seen_span e.key)) (seen_value e.value)
    (option_map seen_span e.rest) front in
    let others = others_read c.in_ok-less.less Dictionary (seen_span c.after_entry.result) (rest_or (option_map seen_span e.rest) p.first.1) p.others
    (c.after_entry.ensures p.first p.is_first) p.are_others in
    rw p.whole (found_later c.in_ok-less.less c.args.steps (spelled_text (seen_span c.args.key)) (spelled_text (seen_span e.key)) _ p.first.0 p.others.0 more
    (sym c.same_text.ensures ∙ c.if-same_text.false) (c.find.ensures p.others others))
