use Rattle.std.proofs.Common.{sym, ◌∙◌}
use Rattle.mach_layout.specs.Laid.{laid_of}
use Rattle.mach_layout.proofs.OpenClaims.{table_next}
use Rattle.mach_layout.proofs.claiming.Open.next.Goals as goal

pub returns : goal.returns
returns c =
    table_next (laid_of c.args.layout.now) c.args.self.now c.in_ok-self.field-0 c.in_ok-claim.claim c.in_default.is c.in_default-take_section.ensures.more
    c.in_ok-self.was (sym c.table_claim.ensures.value ∙ c.in_ok-claim.was)
