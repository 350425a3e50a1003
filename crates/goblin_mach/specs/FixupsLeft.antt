-- What is left of an iterator over the fixups of an image.
use Rattle.std.specs.Prelude.{List, [], ◌∷◌, ◌++◌, Option, Some, None, Result, Err}
use Rattle.mach_base.specs.declared.error.Error.{Error}
use Rattle.mach_base.specs.Fault.{Fault, fault_of}
use Rattle.mach_chained.specs.Fixups.{Fixup}
use Rattle.mach_chained.specs.FixupsLeft as chains
use Rattle.goblin_mach.specs.declared.fixups.FixupIterator.{FixupIterator}

-- an error that is still to be returned
abbrev pub reported_first : {A : Type 0} → Option Error → List (Result A Fault)
reported_first None = []
reported_first (Some e) = Err (fault_of e) ∷ []

unfoldable pub image_fixups_left : FixupIterator → List (Result Fixup Fault)
image_fixups_left it = reported_first it.refusal ++ chains.fixups_left it.chains
