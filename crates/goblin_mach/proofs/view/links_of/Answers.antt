use Rattle.std.proofs.Common.{inl, inr}
use Rattle.goblin_mach.specs.View.{FaultHeld}
use Rattle.goblin_mach.proofs.Exits.{exit_in}
use Rattle.goblin_mach.proofs.view.links_of.Goals as goal

pub returns-in_err-exports-clause-refused : goal.returns-in_err-exports-clause-refused
returns-in_err-exports-clause-refused g c =
    exit_in _ (FaultHeld c.args.image.now) _ _ c.from_residual-in_err-exports.ensures.1 (λ f fault. inl fault) c.in_err-exports.ensures.refused

pub returns-in_err-imports-clause-refused : goal.returns-in_err-imports-clause-refused
returns-in_err-imports-clause-refused g c =
    exit_in _ (FaultHeld c.args.image.now) _ _ c.from_residual-in_err-imports.ensures.1 (λ f fault. inr fault) c.in_err-imports.ensures.refused

pub returns-clause-held : goal.returns-clause-held
returns-clause-held g c = record { exports = c.in_ok-exports.ensures.listed; imports = c.in_ok-imports.ensures.listed }
