use Rattle.std.proofs.Common.{◌≢◌, take}
use Rattle.std.specs.Prelude.{All, string_bytes}
use Rattle.goblin_mach.proofs.exported.find_export.Given as goal

abbrev pub invariant-loop-export : goal.invariant-loop-export
invariant-loop-export g l = All (λ x. string_bytes x.name ≢ l.name) (take l.export-index l.exports)
