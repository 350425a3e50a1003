use Rattle.std.proofs.Common.{sym}
use Rattle.goblin_mach.specs.Initializers.{init_input_of, init_width}
use Rattle.goblin_mach.proofs.InitializerRuns.{first_left}
use Rattle.goblin_mach.proofs.initializers.InitializerIterator.next_of_run.Goals as goal

pub returns-clause-item : goal.returns-clause-item
returns-clause-item c =
    let run = c.in-Some.run' in
    let slot = c.in_ok-place in
    let x = init_input_of c.args.self.now.source in
    rw (c.in-Some.is, c.target.ensures)
    (first_left x run.section run.held.now (init_width run.is_wide) run.index slot.place slot.stored (sym slot.ensures))
