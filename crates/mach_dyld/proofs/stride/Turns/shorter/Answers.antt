use Rattle.std.proofs.Common.{◌-◌, ◌%◌, subst, sym}
use Rattle.std.specs.Prelude.{◌↔◌}
use Rattle.mach_dyld.specs.Turns.{AnyBelow}
use Rattle.mach_dyld.proofs.Rings.{turned_same}
use Rattle.mach_dyld.proofs.stride.Turns.shorter.Goals as goal

pub returns-clause-same : goal.returns-clause-same
returns-clause-same c = λ limit.
    let t = c.args.self in
    subst (λ n. AnyBelow limit (record { count = t.count; first = n % t.size; step = t.size - t.step; size = t.size }) ↔ AnyBelow limit t)
    (sym c.last.ensures) (turned_same t limit c.requires.ring.step)
