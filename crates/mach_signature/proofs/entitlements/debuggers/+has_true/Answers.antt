use Rattle.std.proofs.Common.{◌≡◌, ◌∙◌, suc, refl, sym, arith}
use Rattle.std.specs.Option.{option_map}
use Rattle.mach_signature.specs.EntitlementReads.{rest_or}
use Rattle.mach_signature.specs.EntitlementSpans.{spelled_text}
use Rattle.mach_signature.specs.EntitlementViews.{seen_span, seen_value}
use Rattle.mach_signature.specs.declared.entitlements.parts.Group.TheVariants.{Dictionary}
use Rattle.mach_signature.proofs.Debuggers.{true_here, true_later}
use Rattle.mach_signature.proofs.EntitlementSteps.{entry_parts, others_read, readable_front, readable_steps, whole_end}
use Rattle.mach_signature.proofs.entitlements.debuggers.+has_true.Goals as goal

pub returns-in_default : goal.returns-in_default
returns-in_default t c x is = readable_steps c.args.steps Dictionary (seen_span c.args.values) x (omega arith) is

pub returns-in_default-front_at : goal.returns-in_default-front_at
returns-in_default-front_at t c x is =
    let more : c.args.steps ≡ suc c.in-Some.less = omega arith in
    readable_front c.args.steps c.in-Some.less Dictionary (seen_span c.args.values) x more is _ c.in_default-front_at.ensures

pub returns-in-End : goal.returns-in-End
returns-in-End t c x is =
    let more : c.args.steps ≡ suc c.in-Some.less = omega arith in
    let front = rw c.in-End.is at c.in-Ok.ensures in
    rw (whole_end c.args.steps c.in-Some.less Dictionary (seen_span c.args.values) x more is (seen_span c.in-End.field-0) front) refl

pub returns-then-is_true_under : goal.returns-then-is_true_under
returns-then-is_true_under t c x is =
    let more : c.args.steps ≡ suc c.in-Some.less = omega arith in
    let e = c.in-Entry.entry in
    let front = rw c.in-Entry.is at c.in-Ok.ensures in
    let p = entry_parts c.args.steps c.in-Some.less Dictionary (seen_span c.args.values) x more is (spelled_text (seen_span e.key)) (seen_value e.value)
    (option_map seen_span e.rest) front in
    rw p.whole (true_here c.in-Some.less (spelled_text (seen_span c.args.key)) (spelled_text (seen_span e.key)) (seen_value e.value) p.first p.others.0
    p.is_first (sym c.is_true_under.ensures ∙ c.if-is_true_under.true))

pub returns-else-is_true_under : goal.returns-else-is_true_under
returns-else-is_true_under t c x is =
    let more : c.args.steps ≡ suc c.in-Some.less = omega arith in
    let e = c.in-Entry.entry in
    let front = rw c.in-Entry.is at c.in-Ok.ensures in
    let p = entry_parts c.args.steps c.in-Some.less Dictionary (seen_span c.args.values) x more is (spelled_text (seen_span e.key)) (seen_value e.value)
    (option_map seen_span e.rest) front in
    let others = others_read c.in-Some.less Dictionary (seen_span c.after_entry.result) (rest_or (option_map seen_span e.rest) p.first.1) p.others
    (c.after_entry.ensures p.first p.is_first) p.are_others in
    rw p.whole (true_later c.in-Some.less (spelled_text (seen_span c.args.key)) (spelled_text (seen_span e.key)) (seen_value e.value) p.first p.others.0 _
    p.is_first (sym c.is_true_under.ensures ∙ c.if-is_true_under.false) (c.has_true.ensures p.others others))
