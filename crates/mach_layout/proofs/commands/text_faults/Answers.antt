use Rattle.std.proofs.Common.{[], ◌∷◌}
use Rattle.std.proofs.lemmas.Result.{on_ok_weaker}
use Rattle.mach_layout.specs.Commands.{commands_reported}
use Rattle.mach_layout.specs.Header.{header_reported}
use Rattle.mach_layout.specs.Laid.{laid_of}
use Rattle.mach_layout.specs.declared.fault.Rule.TheVariants as rule
use Rattle.mach_layout.proofs.Joined.{three_reported}
use Rattle.mach_layout.proofs.commands.text_faults.Goals as goal

pub returns-clause-reported : goal.returns-clause-reported
returns-clause-reported g c =
    let laid = laid_of c.args.layout.now in
    on_ok_weaker c.report_commands-2.result
    (λ last. three_reported (commands_reported laid (rule.TextMisplaced ∷ rule.TextEmpty ∷ [])) (header_reported laid (rule.IdMissing ∷ []))
    (commands_reported laid (rule.IdUnexpected ∷ [])) c.args.faults.now.items c.report_commands.new.faults.items c.report_header.new.faults.items
    c.in_ok-report_commands.ensures.reported c.in_ok-report_header.ensures.reported last)
    c.report_commands-2.ensures.reported
