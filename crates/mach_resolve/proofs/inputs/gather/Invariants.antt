use Rattle.std.proofs.Common.{◌+◌, map, drop}
use Rattle.mach_resolve.specs.Given.{Gathered, Gathers, GathersFor}
use Rattle.mach_resolve.specs.ResolveViews.{gathered_view}
use Rattle.mach_resolve.specs.Opened.{given_view}
use Rattle.mach_resolve.proofs.inputs.gather.Given as goal

-- adding the other libraries to these files gives the same as adding all
abbrev pub invariant-loop-index : goal.invariant-loop-index
invariant-loop-index g l =
    (all : Gathered) → Gathers l.cputype (l.index + 1) (drop l.index (map given_view l.libraries)) (gathered_view l.gathered) all
    → GathersFor l.cputype (given_view l.program) (map given_view l.libraries) all
