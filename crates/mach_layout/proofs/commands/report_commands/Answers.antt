use Rattle.std.proofs.Common.{◌++◌, List, ap, ◌∙◌}
use Rattle.mach_load.specs.Variants.{command_of}
use Rattle.mach_layout.specs.Commands.{owner_by, command_sees}
use Rattle.mach_layout.specs.Laid.{laid_of}
use Rattle.mach_layout.specs.declared.fault.LayoutFault.{LayoutFault}
use Rattle.mach_layout.proofs.Reported.{reported_of_outcome}
use Rattle.mach_layout.proofs.commands.report_commands.Goals as goal

pub returns-clause-reported : goal.returns-clause-reported
returns-clause-reported g c =
    let layout = c.args.layout.now in
    c.in_ok-report_each.ensures.reported
    ∙ ap (λ (reported : List LayoutFault). c.args.faults.now.items ++ reported)
    (reported_of_outcome command_of c.args.rules.now owner_by (command_sees (laid_of layout)) layout.commands.now)
