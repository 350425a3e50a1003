use Rattle.std.proofs.Common.{◌∙◌, sym}
use Rattle.mach_layout.specs.Commands.{is_symbols}
use Rattle.mach_layout.proofs.OneByOne.{any_here, any_further, any_none}
use Rattle.mach_layout.proofs.commands.has_symbols.Goals as goal

pub returns-then-is_symbols : goal.returns-then-is_symbols
returns-then-is_symbols c =
    sym (any_here is_symbols c.args.commands.now c.loop-command.command-index _ c.loop-command-test.true (sym c.is_symbols.ensures ∙ c.if-is_symbols.true))
    ∙ c.loop-command.invariant

pub loop-command-preserved : goal.loop-command-preserved
loop-command-preserved c =
    sym (any_further is_symbols c.args.commands.now c.loop-command.command-index _ c.loop-command-test.true (sym c.is_symbols.ensures ∙ c.if-is_symbols.false))
    ∙ c.loop-command.invariant

pub returns : goal.returns
returns c = sym (any_none is_symbols c.args.commands.now c.loop-command.command-index c.loop-command-test.false) ∙ c.loop-command.invariant
