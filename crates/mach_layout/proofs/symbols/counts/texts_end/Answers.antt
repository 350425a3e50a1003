use Rattle.std.proofs.Common.{◌==◌, not, ap, arith}
use Rattle.mach_layout.proofs.Texts.{none_from_before, texts_end_is}
use Rattle.mach_layout.proofs.symbols.counts.texts_end.Goals as goal

pub loop-end-preserved : goal.loop-end-preserved
loop-end-preserved c = record {
  within = omega (arith, c.loop-end.invariant.within);
  following = none_from_before c.args.strings.now c.loop-end.end c.loop-end-test.true c.if-strings-end-ne0.true c.loop-end.invariant.following;
}

pub returns-after-loop-end-clause-value : goal.returns-after-loop-end-clause-value
returns-after-loop-end-clause-value c =
    texts_end_is c.args.strings.now c.loop-end.end c.loop-end.invariant.within c.loop-end.invariant.following (λ some. absurd (omega arith))

pub returns-else-strings-end-ne0-clause-value : goal.returns-else-strings-end-ne0-clause-value
returns-else-strings-end-ne0-clause-value c =
    texts_end_is c.args.strings.now c.loop-end.end c.loop-end.invariant.within c.loop-end.invariant.following
    (λ some. ap (λ b. not (b == 0)) c.if-strings-end-ne0.false)
