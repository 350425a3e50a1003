-- What is left of the fixups of the chains that are shown.
use Rattle.std.specs.Prelude.{List, Result}
use Rattle.mach_base.specs.Fault.{Fault}
use Rattle.mach_chained.specs.Fixups.{Fixup}
use Rattle.goblin_mach.specs.FixupsLeft.{image_fixups_left}
use Rattle.machfixups.specs.KeptFixups.{kept_fixups}
use Rattle.machfixups.specs.declared.kept_fixups.KeptFixups.{KeptFixups}

abbrev pub kept_left : KeptFixups → List (Result Fixup Fault)
kept_left it = kept_fixups it.kinds (image_fixups_left it.fixups)
