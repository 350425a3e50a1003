use Rattle.std.proofs.Common.{take}
use Rattle.std.specs.Prelude.{All}
use Rattle.mach_resolve.specs.Files.{Lacks}
use Rattle.mach_resolve.specs.ResolveViews.{input_views}
use Rattle.mach_resolve.proofs.file.Files.first_having.Given as goal

abbrev pub invariant-loop-place : goal.invariant-loop-place
invariant-loop-place g l = All (Lacks (input_views l.self) l.name) (take l.place-index l.places)
