use Rattle.mach_dyld.proofs.BindNames.{◌∙◌, ◌<◌, length, subst, arith, IsErr, range_of}
use Rattle.mach_dyld.proofs.StreamReading.{rebase_past, rebase_table, past_bytes, ok_or_err}
use Rattle.mach_dyld.proofs.rebases.RebasingBindRules.unreadable.Goals as goal

pub returns-then-state-bytes : goal.returns-then-state-bytes
returns-then-state-bytes c =
    let s = c.args.state.now in
    let out = c.if-state-bytes.true in
    rebase_past (range_of s) c.args.pointer c.args.bytes.now s.place (past_bytes c.args.bytes.now s.place (omega (arith, out)))

pub unreachable-requires : goal.unreachable-requires
unreachable-requires c =
    let s = c.args.state.now in
    let out = c.if-state-bytes.false in
    let inside : s.place < length c.args.bytes.now = omega (arith, out) in
    ok_or_err _ (c.in-Ok.ensures.ok (range_of s))
    (subst (λ r. IsErr r) (rebase_table (range_of s) c.args.pointer c.args.bytes.now s.place c.args.byte (c.requires.byte inside)) c.requires.fault)

pub returns : goal.returns
returns c =
    let s = c.args.state.now in
    let out = c.if-state-bytes.false in
    let inside : s.place < length c.args.bytes.now = omega (arith, out) in
    rebase_table (range_of s) c.args.pointer c.args.bytes.now s.place c.args.byte (c.requires.byte inside) ∙ c.in-Err.ensures.err (range_of s)
