use Rattle.std.proofs.Common.{◌++◌, List, Option, ap, ◌∙◌}
use Rattle.mach_layout.specs.ClaimsLeft.{claims_left}
use Rattle.mach_layout.specs.Laid.{laid_of}
use Rattle.mach_layout.specs.Ranges.{claim_sees, linkedit_of}
use Rattle.mach_layout.specs.Rules.{reported_over}
use Rattle.mach_layout.specs.declared.claim.Claim.{Claim}
use Rattle.mach_layout.specs.declared.fault.LayoutFault.{LayoutFault}
use Rattle.mach_layout.specs.declared.placed_sections.PlacedSegment.{PlacedSegment}
use Rattle.mach_layout.proofs.ranges.report_claims.Goals as goal

pub returns-clause-reported : goal.returns-clause-reported
returns-clause-reported g c =
    let laid = laid_of c.args.layout.now in
    let reported : Option PlacedSegment → List Claim → List LayoutFault =
    λ linkedit claims. reported_over c.args.rules.now (λ rule claim. claim.owner) (claim_sees laid linkedit) claims in
    c.in_ok-report_over.ensures.reported
    ∙ ap (λ (s : Option PlacedSegment). c.args.faults.now.items ++ reported s (claims_left c.claims.result)) c.linkedit_of.ensures
    ∙ ap (λ (claims : List Claim). c.args.faults.now.items ++ reported (linkedit_of laid) claims) c.claims.ensures
