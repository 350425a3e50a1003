use Rattle.std.proofs.Common.{◌+◌, ◌-◌, ◌%◌, ◌/◌, subst, sym}
use Rattle.std.specs.Prelude.{◌↔◌}
use Rattle.mach_dyld.specs.Turns.{AnyBelow}
use Rattle.mach_dyld.proofs.Rings.{after_same}
use Rattle.mach_dyld.proofs.stride.Turns.after_starts.Goals as goal

pub returns-clause-same : goal.returns-clause-same
returns-clause-same c = λ limit above short.
    let t = c.args.self in
    let back = t.step - t.size % t.step in
    subst (λ n. AnyBelow limit (record { count = n / t.size; first = (t.first + back) % t.step; step = back % t.step; size = t.step }) ↔ AnyBelow limit t)
    (sym c.last.ensures) (after_same t limit c.requires.ring c.requires.some c.requires.step above short)
