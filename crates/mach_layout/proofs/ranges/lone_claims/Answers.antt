use Rattle.std.proofs.Common.{rules, tests}
use Rattle.std.proofs.lemmas.Iterator.{items_from_collect}
use Rattle.std.proofs.lemmas.Iterator.Consumers.{YieldsList-at, YieldsList-from_first, YieldsList-from_filter}
use Rattle.mach_layout.specs.Claims.{claims_of}
use Rattle.mach_layout.specs.ClaimsLeft.{claims_left}
use Rattle.mach_layout.specs.Laid.{laid_of}
use Rattle.mach_layout.specs.Ranges.{is_lone_claim}
use Rattle.mach_layout.specs.declared.claim.Claim.{Claim}
use Rattle.mach_layout.proofs.ranges.lone_claims.Goals as goal

pub returns-clause-listed : goal.returns-clause-listed
returns-clause-listed g c =
    let laid = laid_of c.args.layout.now in
    rw c.in_ok-found.was at (items_from_collect c.collect.result c.collect.ensures.ran
    (YieldsList-from_filter _ (is_lone_claim laid)
    (YieldsList-at c.filter.ensures.source (YieldsList-from_first (λ (x : Claim). x) claims_left (claims_of laid) c.claims.ensures))
    c.filter.ensures.closure (λ x r q k. search (rules, tests))))
