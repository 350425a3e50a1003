use Rattle.mach_audit.proofs.NothingFound.{nothing_found_if_sound, sound_if_nothing_found}
use Rattle.mach_audit.proofs.laws.sound_if_nothing_is_found.Goals as goal

pub returns-clause-sound : goal.returns-clause-sound
returns-clause-sound g c = λ none. sound_if_nothing_found c.args.report.now none

pub returns-clause-only : goal.returns-clause-only
returns-clause-only g c = λ limit bytes is sound. nothing_found_if_sound c.args.report.now limit bytes is sound
