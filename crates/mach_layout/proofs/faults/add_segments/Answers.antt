use Rattle.std.proofs.Common.{◌++◌, ap, ◌∙◌}
use Rattle.mach_layout.specs.Header.{segment_order_faults}
use Rattle.mach_layout.specs.Laid.{laid_of}
use Rattle.mach_layout.specs.Ranges.{out_of_file_faults}
use Rattle.mach_layout.specs.Segments.{segment_faults}
use Rattle.mach_layout.proofs.faults.add_segments.Goals as goal

pub returns-clause-reported : goal.returns-clause-reported
returns-clause-reported g c =
    let laid = laid_of c.args.layout.now in
    let memory = c.in_ok-memory_shared.ensures.reported in
    let files = c.in_ok-files_shared.ensures.reported in
    record {
      memory = memory.0;
      files = files.0;
      memory_shared = memory.1;
      files_shared = files.1;
      joined =
          c.in_ok-report_header.ensures.reported
          ∙ ap (λ fs. fs ++ segment_order_faults laid) (files.2
          ∙ ap (λ fs. fs ++ files.0) (memory.2
          ∙ ap (λ fs. fs ++ memory.0) (c.in_ok-segment_faults.ensures.reported
          ∙ ap (λ fs. fs ++ segment_faults laid) (c.in_ok-report_claims.ensures.reported
          ∙ ap (λ fs. fs ++ out_of_file_faults laid) c.in_ok-command_faults.ensures.reported))));
    }
