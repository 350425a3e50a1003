use Rattle.goblin_mach.specs.Inputs.{opens_mach, of_mach}
use Rattle.goblin_mach.proofs.InputFiles.{opens_as_mach, faults_as_mach, held_as_mach, mach_as_held}
use Rattle.goblin_mach.proofs.laws.inputs.inputs_are_machs.Goals as goal

pub returns-clause-opens : goal.returns-clause-opens
returns-clause-opens g c = λ bytes neither. (opens_as_mach bytes neither, opens_mach neither)

pub returns-clause-faults : goal.returns-clause-faults
returns-clause-faults g c = λ bytes f neither. (faults_as_mach bytes f neither, of_mach f neither)

pub returns-clause-held : goal.returns-clause-held
returns-clause-held g c = λ bytes neither. (held_as_mach bytes c.args.input.now neither, mach_as_held bytes c.args.input.now neither)
