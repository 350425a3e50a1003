use Rattle.std.proofs.Common.{◌∙◌, sym, ap, subst}
use Rattle.mach_dyld.specs.Imports.{input_in}
use Rattle.goblin_mach_c.specs.BindingPlaces.{opcode_sites_after}
use Rattle.goblin_mach_c.specs.BindingsAfter.{AreOverOpcodes, opcodes_after, opcode_rows_left, opcode_sites_left}
use Rattle.goblin_mach_c.proofs.bindings.opcode_cursor.Goals as goal

pub returns-in-Some-clause-items : goal.returns-in-Some-clause-items
returns-in-Some-clause-items c = λ x over.
    let o = subst (AreOverOpcodes x) c.in-Some.is over in
    ap opcode_rows_left c.in-Some.is ∙ sym (c.cursor.ensures.items (input_in o.0 x.binds.pointer x.binds.libs x.binds.segments) o.0.lazy o.3)
    ∙ sym (ap (λ r. opcodes_after c.cursor.result r x.binds) o.1)

pub returns-in-Some-clause-sites : goal.returns-in-Some-clause-sites
returns-in-Some-clause-sites c = λ x over.
    let o = subst (AreOverOpcodes x) c.in-Some.is over in
    ap opcode_sites_left c.in-Some.is ∙ sym (c.cursor.ensures.sites (input_in o.0 x.binds.pointer x.binds.libs x.binds.segments) o.0.lazy o.3)
    ∙ sym (ap (λ r. opcode_sites_after c.cursor.result r x.binds) o.1)
