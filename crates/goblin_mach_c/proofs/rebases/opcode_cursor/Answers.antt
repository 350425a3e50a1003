use Rattle.std.proofs.Common.{◌∙◌, sym, ap, subst}
use Rattle.mach_dyld.specs.Cut.{cut_input, cut_range}
use Rattle.goblin_mach_c.specs.RebasesAfter.{IsOverOpcodes, opcodes_left_by, opcodes_rebased}
use Rattle.goblin_mach_c.proofs.rebases.opcode_cursor.Goals as goal

pub returns-in-Some-clause-items : goal.returns-in-Some-clause-items
returns-in-Some-clause-items c = λ x over.
    let o = subst (IsOverOpcodes x) c.in-Some.is over in
    ap opcodes_left_by c.in-Some.is ∙ sym (c.cursor.ensures (cut_input o.0 x.pointer x.segments) (cut_range o.0) o.2)
    ∙ sym (ap (λ r. opcodes_rebased c.cursor.result r x) o.1)
