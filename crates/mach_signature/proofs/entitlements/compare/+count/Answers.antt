use Rattle.std.proofs.Common.{◌≡◌, ◌+◌, ℕ, suc, ap, refl, arith}
use Rattle.std.specs.Option.{option_map}
use Rattle.mach_signature.specs.EntitlementReads.{rest_or}
use Rattle.mach_signature.specs.EntitlementSpans.{spelled_text}
use Rattle.mach_signature.specs.EntitlementViews.{seen_span, seen_value}
use Rattle.mach_signature.specs.declared.entitlements.parts.Group.TheVariants.{Dictionary}
use Rattle.mach_signature.proofs.EntitlementSteps.{entry_parts, others_read, readable_front, readable_steps, whole_end}
use Rattle.mach_signature.proofs.entitlements.compare.+count.Goals as goal

pub returns-in_default-clause-count : goal.returns-in_default-clause-count
returns-in_default-clause-count t c x is = readable_steps c.args.steps Dictionary (seen_span c.args.values) x (omega arith) is

pub returns-in_default-front_at-clause-count : goal.returns-in_default-front_at-clause-count
returns-in_default-front_at-clause-count t c x is =
    let more : c.args.steps ≡ suc c.in-Some.less = omega arith in
    readable_front c.args.steps c.in-Some.less Dictionary (seen_span c.args.values) x more is _ c.in_default-front_at.ensures

pub returns-in-End-clause-count : goal.returns-in-End-clause-count
returns-in-End-clause-count t c x is =
    let more : c.args.steps ≡ suc c.in-Some.less = omega arith in
    let front = rw c.in-End.is at c.in-Ok.ensures in
    rw (whole_end c.args.steps c.in-Some.less Dictionary (seen_span c.args.values) x more is (seen_span c.in-End.field-0) front) refl

pub returns-in-Entry-clause-count : goal.returns-in-Entry-clause-count
returns-in-Entry-clause-count t c x is =
    let more : c.args.steps ≡ suc c.in-Some.less = omega arith in
    let e = c.in-Entry.entry in
    let front = rw c.in-Entry.is at c.in-Ok.ensures in
    let p = entry_parts c.args.steps c.in-Some.less Dictionary (seen_span c.args.values) x more is (spelled_text (seen_span e.key)) (seen_value e.value)
    (option_map seen_span e.rest) front in
    let others = others_read c.in-Some.less Dictionary (seen_span c.after_entry.result) (rest_or (option_map seen_span e.rest) p.first.1) p.others
    (c.after_entry.ensures p.first p.is_first) p.are_others in
    rw p.whole (ap (λ (n : ℕ). 1 + n) (c.count.ensures.count p.others others))
