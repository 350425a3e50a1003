use Rattle.std.proofs.Common.{refl}
use Rattle.goblin_mach_c.specs.FixupsAfter.{fixup_rows_left}
use Rattle.goblin_mach_c.specs.RebasesAfter.{opcodes_left_by}
use Rattle.goblin_mach_c.proofs.rebases.RebaseRows.cursor.Goals as goal

pub returns-clause-items : goal.returns-clause-items
returns-clause-items c = λ x over.
    let it = c.args.self.now in
    record {
      by_opcodes = opcodes_left_by it.opcodes;
      fixups = fixup_rows_left it.fixups;
      opcodes = c.opcode_cursor.ensures.items x over.opcodes;
      chains = c.cursor.ensures.items (record { chained = x.chained; segments = x.segments }) over.fixups;
      are = refl;
    }
