use Rattle.std.proofs.Common.{◌-◌, length}
use Rattle.std.specs.Io.KnownBytes.{Keeps}
use Rattle.mach_cli.specs.Titles.{titled_contents}
use Rattle.mach_cli.proofs.titled.Titled.begin.Given as goal

abbrev pub invariant-title : goal.invariant-title
invariant-title g l = Keeps (titled_contents g.W.Write.contents l.fn.self) (titled_contents g.W.Write.contents l.self)

abbrev pub decreases-title : goal.decreases-title
decreases-title g l = length l.self.title.items - l.self.written
