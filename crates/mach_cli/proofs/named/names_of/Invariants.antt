use Rattle.std.proofs.Common.{◌≡◌, ◌++◌, length}
use Rattle.mach_base.specs.Text.{texts}
use Rattle.mach_cli.specs.Listed.{listed_names}
use Rattle.mach_cli.proofs.named.names_of.Given as goal

abbrev pub invariant-ends : goal.invariant-ends
invariant-ends g l = texts l.names.items ++ listed_names l.end l.rest ≡ listed_names l.end l.list

abbrev pub decreases-ends : goal.decreases-ends
decreases-ends g l = length l.rest
