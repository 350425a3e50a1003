use Rattle.std.proofs.Common.{◌≡◌, take}
use Rattle.std.specs.Prelude.{All, IsFalse}
use Rattle.mach_resolve.specs.ResolveViews.{input_views}
use Rattle.mach_resolve.proofs.special.in_main.Given as goal

abbrev pub invariant-loop-file : goal.invariant-loop-file
invariant-loop-file g l = All (λ f. IsFalse f.is_main) (take l.file-index (input_views l.files)) × (l.kept ≡ l.fn.kept)
