use Rattle.std.proofs.Common.{rules, ◌≡◌, suc, arith}
use Rattle.mach_signature.proofs.Gaps.{gap_none, gap_step}
use Rattle.mach_signature.proofs.entitlements.xml.+after_gap.Goals as goal

pub returns-in_default : goal.returns-in_default
returns-in_default t c = rw (gap_none c.args.most c.args.bytes.now (omega arith)) (search rules)

pub returns-in_err-following : goal.returns-in_err-following
returns-in_err-following t c =
    let less : c.args.most ≡ suc c.in-Some.fewer = omega arith in
    rw (gap_step c.args.most c.in-Some.fewer c.args.bytes.now less) (search rules)

pub returns-then-has_front : goal.returns-then-has_front
returns-then-has_front t c =
    let less : c.args.most ≡ suc c.in-Some.fewer = omega arith in
    rw (gap_step c.args.most c.in-Some.fewer c.args.bytes.now less) (search rules)

pub returns : goal.returns
returns t c =
    let less : c.args.most ≡ suc c.in-Some.fewer = omega arith in
    rw (gap_step c.args.most c.in-Some.fewer c.args.bytes.now less) (search rules)
