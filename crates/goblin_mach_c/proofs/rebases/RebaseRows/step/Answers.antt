use Rattle.std.proofs.Common.{None, sym, subst}
use Rattle.goblin_mach_c.specs.RebasesAfter.{AreRebaseRowsOver}
use Rattle.goblin_mach_c.specs.declared.rebases.RebaseRows.{RebaseRows}
use Rattle.goblin_mach_c.proofs.rebases.RebaseRows.step.Goals.{in-Some+in_default-next_rebase, in_default}
use Rattle.goblin_mach_c.proofs.rebases.RebaseRows.step.Goals as goal

pub returns-clause-over : goal.returns-clause-over
returns-clause-over c = λ x over.
    let chains : AreRebaseRowsOver x (record c.args.self.now { opcodes = None }) = record { opcodes = tt; fixups = over.fixups } in
    c.next_of_chains.ensures.over x (elim c.match-self.branch [
      | in-Some+in_default-next_rebase w ↦ subst (λ (it : RebaseRows). AreRebaseRowsOver x (record it { opcodes = None })) (sym w.self-is) chains
      | in_default w ↦ subst (λ (it : RebaseRows). AreRebaseRowsOver x (record it { opcodes = None })) (sym w.self-is) chains
    ])
