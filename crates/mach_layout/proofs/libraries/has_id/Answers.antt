use Rattle.std.proofs.Common.{◌∙◌, sym}
use Rattle.mach_layout.specs.Libraries.{says_id}
use Rattle.mach_layout.proofs.OneByOne.{any_here, any_further, any_none}
use Rattle.mach_layout.proofs.libraries.has_id.Goals as goal

pub returns-then-is_id : goal.returns-then-is_id
returns-then-is_id c =
    sym (any_here says_id c.args.commands.now c.loop-command.command-index _ c.loop-command-test.true (sym c.is_id.ensures ∙ c.if-is_id.true))
    ∙ c.loop-command.invariant

pub loop-command-preserved : goal.loop-command-preserved
loop-command-preserved c =
    sym (any_further says_id c.args.commands.now c.loop-command.command-index _ c.loop-command-test.true (sym c.is_id.ensures ∙ c.if-is_id.false))
    ∙ c.loop-command.invariant

pub returns : goal.returns
returns c = sym (any_none says_id c.args.commands.now c.loop-command.command-index c.loop-command-test.false) ∙ c.loop-command.invariant
