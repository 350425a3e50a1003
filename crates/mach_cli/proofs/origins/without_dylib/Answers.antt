use Rattle.std.proofs.Common.{Bool, false, ap, length, take, ◌-◌}
use Rattle.std.proofs.lemmas.Str.Pattern.{ends_text}
use Rattle.std.specs.Prelude.{codes, if◌then◌else◌}
use Rattle.mach_cli.proofs.origins.without_dylib.Goals as goal

pub returns-in-None : goal.returns-in-None
returns-in-None c =
    let name = c.args.name.now in
    ap (λ (b : Bool). if b then take (length name - 6) name else name) (ends_text false (codes ".dylib") name c.in-None.ensures.cases)
