use Rattle.std.proofs.Common.{◌++◌, ap, ◌∙◌}
use Rattle.mach_layout.specs.Laid.{laid_of}
use Rattle.mach_layout.specs.Ranges.{claim_faults}
use Rattle.mach_layout.specs.Segments.{encrypted_faults}
use Rattle.mach_layout.proofs.faults.add_sections.Goals as goal

pub returns-clause-reported : goal.returns-clause-reported
returns-clause-reported g c =
    let laid = laid_of c.args.layout.now in
    let sections = c.in_ok-sections_shared.ensures.reported in
    let claims = c.in_ok-claims_shared.ensures.reported in
    record {
      sections = sections.0;
      claims = claims.0;
      sections_shared = sections.1;
      claims_shared = claims.1;
      joined =
          c.in_ok-encrypted_faults.ensures.reported
          ∙ ap (λ fs. fs ++ encrypted_faults laid) (c.in_ok-report_claims.ensures.reported
          ∙ ap (λ fs. fs ++ claim_faults laid) (claims.2
          ∙ ap (λ fs. fs ++ claims.0) (sections.2
          ∙ ap (λ fs. fs ++ sections.0) c.in_ok-section_faults.ensures.reported)));
    }
