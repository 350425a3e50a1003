use Rattle.std.proofs.Common.{◌++◌, List, Result, ap}
use Rattle.mach_base.specs.Fault.{Fault}
use Rattle.mach_dyld.specs.Bindings.{upto_fault}
use Rattle.mach_parts.specs.Bindings.{Binding}
use Rattle.mach_base.specs.Text.{texts}
use Rattle.goblin_mach_c.specs.BindingsAfter.{opcode_rows_left}
use Rattle.goblin_mach_c.specs.FixupsAfter.{fixup_rows_left}
use Rattle.goblin_mach_c.proofs.BoundChains.{same_chains}
use Rattle.goblin_mach_c.proofs.PlacedBindings.{whole}
use Rattle.goblin_mach_c.proofs.bindings.BindingRows.cursor.Goals as goal

pub returns-clause-items : goal.returns-clause-items
returns-clause-items c = λ x over.
    let it = c.args.self.now in
    let by_opcodes = opcode_rows_left it.opcodes in
    record {
      by_opcodes = by_opcodes;
      fixups = fixup_rows_left it.fixups;
      opcodes = c.opcode_cursor.ensures.items x over.opcodes;
      chains = c.cursor.ensures.items (record { chained = x.chained; segments = x.binds.segments }) over.fixups;
      are = ap (λ (l : List (Result Binding Fault)). upto_fault (by_opcodes ++ l))
          (same_chains x.chained x.binds it.fixups it.segments.now it.base (texts it.libs.now) over.fixups over.libs over.segments over.base);
    }

pub returns-clause-placed : goal.returns-clause-placed
returns-clause-placed c = λ x over.
    let it = c.args.self.now in
    let chains = c.cursor.ensures.items (record { chained = x.chained; segments = x.binds.segments }) over.fixups in
    whole x _ it.opcodes it.fixups _ _ _ _ over.fixups over.libs over.segments over.base over.chains_at (c.opcode_cursor.ensures.items x over.opcodes)
    (c.opcode_cursor.ensures.sites x over.opcodes) chains
