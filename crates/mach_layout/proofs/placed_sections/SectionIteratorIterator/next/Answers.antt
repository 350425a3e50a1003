use Rattle.std.proofs.Common.{◌++◌, ◌∙◌, ap, arith, length, map}
use Rattle.std.specs.List.{flat_map}
use Rattle.std.specs.Slice.Iter.{iter_rest}
use Rattle.mach_load.specs.Variants.{command_of}
use Rattle.mach_layout.specs.Laid.{sections_by}
use Rattle.mach_layout.proofs.placed_sections.SectionIteratorIterator.next.Goals as goal

pub returns-in-Some-clause-steps : goal.returns-in-Some-clause-steps
returns-in-Some-clause-steps c =
    let it = c.commands.self in
    c.commands.invariant
    ∙ ap (λ here. here ++ flat_map (sections_by it.ctx it.bytes.now) (map command_of (iter_rest it.commands))) c.in-Some.ensures.more

pub returns-in-Some-clause-goes : goal.returns-in-Some-clause-goes
returns-in-Some-clause-goes c =
    let it = c.commands.self in
    let steps = c.commands.invariant
    ∙ ap (λ here. here ++ flat_map (sections_by it.ctx it.bytes.now) (map command_of (iter_rest it.commands))) c.in-Some.ensures.more in
    record {
      on = λ _. (tt, tt, omega (arith, ap length steps));
      keeps = tt;
      rests = λ _. tt;
    }
