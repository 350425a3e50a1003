use Rattle.std.proofs.Common.{None, sym, subst}
use Rattle.mach_dyld.specs.Imports.{input_in}
use Rattle.goblin_mach_c.specs.BindingsAfter.{AreBindingRowsOver, AreOverOpcodes}
use Rattle.goblin_mach_c.specs.declared.bindings.BindingRows.{BindingRows}
use Rattle.goblin_mach_c.proofs.BoundNames.{opcode_placed}
use Rattle.goblin_mach_c.proofs.PlacedBindings.{over_chains}
use Rattle.goblin_mach_c.proofs.bindings.BindingRows.step.Goals.{in-Some+in_default-next_placed, in_default}
use Rattle.goblin_mach_c.proofs.bindings.BindingRows.step.Goals as goal

pub returns-in-Some-next_placed-clause-placed : goal.returns-in-Some-next_placed-clause-placed
returns-in-Some-next_placed-clause-placed c = λ x over.
    let o = subst (AreOverOpcodes x) c.in-Some.is over.opcodes in
    let input = input_in o.0 x.binds.pointer x.binds.libs x.binds.segments in
    opcode_placed o.0.bytes x.bytes o.2 c.in-Some-next_placed.item (c.in-Some-next_placed.ensures.placed input o.0.lazy o.3)

pub returns-clause-over : goal.returns-clause-over
returns-clause-over c = λ x over.
    let chains = over_chains x c.args.self.now over in
    c.next_of_chains.ensures.over x (elim c.match-self.branch [
      | in-Some+in_default-next_placed w ↦ subst (λ (it : BindingRows). AreBindingRowsOver x (record it { opcodes = None })) (sym w.self-is) chains
      | in_default w ↦ subst (λ (it : BindingRows). AreBindingRowsOver x (record it { opcodes = None })) (sym w.self-is) chains
    ])
