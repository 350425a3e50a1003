use Rattle.std.proofs.Common.{[], ◌∷◌}
use Rattle.std.proofs.lemmas.Result.{on_ok_weaker}
use Rattle.mach_layout.specs.Commands.{commands_reported, commands_again, dynamic_symbols_alone}
use Rattle.mach_layout.specs.Header.{header_reported}
use Rattle.mach_layout.specs.Laid.{laid_of}
use Rattle.mach_layout.specs.declared.fault.Rule.TheVariants as rule
use Rattle.mach_layout.proofs.Joined.{five_reported}
use Rattle.mach_layout.proofs.commands.command_faults.Goals as goal

pub returns-clause-reported : goal.returns-clause-reported
returns-clause-reported g c =
    let laid = laid_of c.args.layout.now in
    let commands =
    commands_reported laid (rule.CommandSize ∷ rule.CommandUnaligned ∷ rule.CommandOutOfCommands ∷ rule.CommandCount ∷ rule.SegmentWidth ∷ []) in
    on_ok_weaker c.report_dynamic_symbols.result
    (λ last. five_reported (header_reported laid (rule.FileKind ∷ rule.CommandsOutOfFile ∷ [])) commands (header_reported laid (rule.CommandsEndEarly ∷ []))
    (commands_again [] laid.commands) (dynamic_symbols_alone laid) c.args.faults.now.items c.report_header.new.faults.items c.report_commands.new.faults.items
    c.report_header-2.new.faults.items c.report_again.new.faults.items c.in_ok-report_header.ensures.reported c.in_ok-report_commands.ensures.reported
    c.in_ok-report_header-2.ensures.reported c.in_ok-report_again.ensures.reported last)
    c.report_dynamic_symbols.ensures.reported
