use Rattle.std.proofs.Common.{rules, ◌≡◌, suc, arith}
use Rattle.mach_signature.proofs.Expressions.{end_none, end_step}
use Rattle.mach_signature.proofs.requirements.term.+end_of.Goals as goal

pub returns-in_default : goal.returns-in_default
returns-in_default t c = end_none c.args.depth c.args.bytes.now c.args.place (omega arith)

pub returns-in_err-code : goal.returns-in_err-code
returns-in_err-code t c =
    let less : c.args.depth ≡ suc c.in-Some.depth = omega arith in
    rw (end_step c.args.depth c.in-Some.depth c.args.bytes.now c.args.place less) (search rules)

pub returns-in_err-middle-in-6 : goal.returns-in_err-middle-in-6
returns-in_err-middle-in-6 t c =
    let less : c.args.depth ≡ suc c.in-Some.depth = omega arith in
    rw (end_step c.args.depth c.in-Some.depth c.args.bytes.now c.args.place less) (search rules)

pub returns-in_err-end-in_default-2 : goal.returns-in_err-end-in_default-2
returns-in_err-end-in_default-2 t c =
    let less : c.args.depth ≡ suc c.in-Some.depth = omega arith in
    rw (end_step c.args.depth c.in-Some.depth c.args.bytes.now c.args.place less) (search rules)

pub returns-in-9 : goal.returns-in-9
returns-in-9 t c =
    let less : c.args.depth ≡ suc c.in-Some.depth = omega arith in
    rw (end_step c.args.depth c.in-Some.depth c.args.bytes.now c.args.place less) (search rules)

pub returns-in_ok-middle-in-6 : goal.returns-in_ok-middle-in-6
returns-in_ok-middle-in-6 t c =
    let less : c.args.depth ≡ suc c.in-Some.depth = omega arith in
    rw (end_step c.args.depth c.in-Some.depth c.args.bytes.now c.args.place less) (search rules)

pub returns-in_ok-end-in_default-2 : goal.returns-in_ok-end-in_default-2
returns-in_ok-end-in_default-2 t c =
    let less : c.args.depth ≡ suc c.in-Some.depth = omega arith in
    rw (end_step c.args.depth c.in-Some.depth c.args.bytes.now c.args.place less) (search rules)
