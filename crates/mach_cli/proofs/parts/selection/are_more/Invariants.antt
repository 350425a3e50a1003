use Rattle.std.proofs.Common.{◌≡◌}
use Rattle.mach_cli.specs.Selected.{are_more}
use Rattle.mach_cli.specs.PartsOf.{parts_left}
use Rattle.mach_cli.proofs.parts.selection.are_more.Given as goal

abbrev pub invariant-parts : goal.invariant-parts
invariant-parts l = are_more l.limit l.cpu (parts_left l.fn.parts) ≡ are_more l.room l.cpu (parts_left l.part-iterator)
