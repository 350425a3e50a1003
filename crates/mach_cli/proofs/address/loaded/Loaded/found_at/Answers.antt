use Rattle.std.proofs.Common.{subst, sym}
use Rattle.goblin_mach.specs.OpenImage.{IsLossyImage}
use Rattle.mach_cli.proofs.address.loaded.Loaded.found_at.Goals as goal

pub returns-in-Some : goal.returns-in-Some
returns-in-Some g c = λ bytes opened.
    let same = rw c.in-Some.is at c.args.self.now.mapped in
    c.look_up.ensures bytes (subst (IsLossyImage bytes 0) (sym same) opened)
