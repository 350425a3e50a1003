use Rattle.std.proofs.Common.{◌≡◌, ◌++◌, map}
use Rattle.goblin_mach.specs.Libraries.{libraries_in, libraries_left}
use Rattle.goblin_mach.specs.OpenImage.{bytes_view, commands_view, ctx_view}
use Rattle.mach_resolve.specs.Given.{may_be_absent}
use Rattle.mach_resolve.proofs.inputs.absences_of.Given as goal

abbrev pub invariant-libraries : goal.invariant-libraries
invariant-libraries g l =
    may_be_absent (libraries_in (ctx_view l.image).le (bytes_view l.image) (commands_view l.image)) ≡ l.absences.items ++ map (λ x. x.attributes.is_weak)
    (libraries_left l.library-iterator)
