use Rattle.std.proofs.Common.{rules, ◌≡◌, suc, arith}
use Rattle.std.specs.Option.{option_map}
use Rattle.mach_signature.specs.EntitlementSpans.{spelled_text}
use Rattle.mach_signature.specs.EntitlementViews.{seen_span, seen_value}
use Rattle.mach_signature.proofs.EntitlementSteps.{entries_none, end_unread, end_here, end_later}
use Rattle.mach_signature.proofs.entitlements.compare.+ends.Goals as goal

pub values_end-returns-in_default : goal.values_end-returns-in_default
values_end-returns-in_default t c = rw (entries_none c.args.steps c.args.group (seen_span c.args.values) (omega arith)) (search rules)

pub values_end-returns-in_err-front : goal.values_end-returns-in_err-front
values_end-returns-in_err-front t c =
    let more : c.args.steps ≡ suc c.in-Some.less = omega arith in
    rw (end_unread c.args.steps c.in-Some.less c.args.group (seen_span c.args.values) more _ c.in_err-front.ensures) (search rules)

pub values_end-returns-in_err-end-in-Entry : goal.values_end-returns-in_err-end-in-Entry
values_end-returns-in_err-end-in-Entry t c =
    let more : c.args.steps ≡ suc c.in-Some.less = omega arith in
    let e = c.in-Entry.entry in
    let front = rw c.in-Entry.is at c.in_ok-front.ensures in
    rw (end_later c.args.steps c.in-Some.less c.args.group (seen_span c.args.values) more (spelled_text (seen_span e.key)) (seen_value e.value)
    (option_map seen_span e.rest) front) (rw c.in_err-end-in-Entry.ensures (search rules))

pub values_end-returns-in-End : goal.values_end-returns-in-End
values_end-returns-in-End t c =
    let more : c.args.steps ≡ suc c.in-Some.less = omega arith in
    let front = rw c.in-End.is at c.in_ok-front.ensures in
    end_here c.args.steps c.in-Some.less c.args.group (seen_span c.args.values) more (seen_span c.in-End.rest) front

pub values_end-returns-in_ok-end-in-Entry : goal.values_end-returns-in_ok-end-in-Entry
values_end-returns-in_ok-end-in-Entry t c =
    let more : c.args.steps ≡ suc c.in-Some.less = omega arith in
    let e = c.in-Entry.entry in
    let front = rw c.in-Entry.is at c.in_ok-front.ensures in
    let last = rw c.rest_or.ensures at c.values_end.ensures in
    rw (end_later c.args.steps c.in-Some.less c.args.group (seen_span c.args.values) more (spelled_text (seen_span e.key)) (seen_value e.value)
    (option_map seen_span e.rest) front) (rw c.in_ok-end-in-Entry.ensures last)
