use Rattle.std.proofs.Common.{◌∙◌, sym}
use Rattle.mach_base.proofs.Written.{Appends-none}
use Rattle.machaudit.proofs.output.say_foreign.Goals as goal

pub returns-in_default : goal.returns-in_default
returns-in_default g c = rw (sym c.refused_kind.ensures ∙ c.in_default.is) (Appends-none (g.E.Write.contents c.args.err.now))
