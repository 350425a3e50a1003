use Rattle.std.proofs.Common.{◌∙◌, sym}
use Rattle.mach_cli.proofs.Painting.{reddened, unpainted}
use Rattle.mach_cli.proofs.painted.write_painted.Goals as goal

pub returns-then-len-eq0-clause-painted : goal.returns-then-len-eq0-clause-painted
returns-then-len-eq0-clause-painted g c =
    unpainted c.args.text.now c.next_painted.result _ _ c.write.result (sym c.painted_len-len.ensures.value ∙ c.if-len-eq0.true) c.write.ensures.bound
    c.write.ensures.bytes

pub returns-clause-painted : goal.returns-clause-painted
returns-clause-painted g c =
    reddened c.args.text.now c.painted_len-len.result _ _ c.painted_len-len.ensures.value c.if-len-eq0.false c.in_ok-write_red.ensures
