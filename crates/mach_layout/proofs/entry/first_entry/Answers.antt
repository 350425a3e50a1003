use Rattle.std.proofs.Common.{◌∙◌, sym}
use Rattle.mach_layout.specs.Entry.{is_entry}
use Rattle.mach_layout.proofs.OneByOne.{find_here, find_further, find_none}
use Rattle.mach_layout.proofs.entry.first_entry.Goals as goal

pub returns-then-is_entry : goal.returns-then-is_entry
returns-then-is_entry c =
    sym (find_here is_entry c.args.commands.now c.loop-command.command-index _ c.loop-command-test.true (sym c.is_entry.ensures ∙ c.if-is_entry.true))
    ∙ c.loop-command.invariant

pub loop-command-preserved : goal.loop-command-preserved
loop-command-preserved c =
    sym (find_further is_entry c.args.commands.now c.loop-command.command-index _ c.loop-command-test.true (sym c.is_entry.ensures ∙ c.if-is_entry.false))
    ∙ c.loop-command.invariant

pub returns : goal.returns
returns c = sym (find_none is_entry c.args.commands.now c.loop-command.command-index c.loop-command-test.false) ∙ c.loop-command.invariant
