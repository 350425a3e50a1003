use Rattle.std.proofs.Common.{◌++◌, ap, ◌∙◌}
use Rattle.mach_layout.specs.Commands.{text_faults}
use Rattle.mach_layout.specs.Entry.{entry_faults}
use Rattle.mach_layout.specs.Laid.{laid_of}
use Rattle.mach_layout.proofs.faults.add_symbols.Goals as goal

pub returns-clause-reported : goal.returns-clause-reported
returns-clause-reported g c =
    let laid = laid_of c.args.layout.now in
    c.in_ok-text_faults.ensures.reported
    ∙ ap (λ fs. fs ++ text_faults laid) (c.in_ok-entry_faults.ensures.reported
    ∙ ap (λ fs. fs ++ entry_faults laid) c.in_ok-symbol_faults.ensures.reported)
