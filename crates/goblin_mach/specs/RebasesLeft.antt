-- What is left of an iterator over the rebases of an image.
use Rattle.std.specs.Prelude.{List, [], ◌++◌, Result, if◌then◌else◌}
use Rattle.mach_base.specs.Fault.{Fault}
use Rattle.mach_dyld.specs.Bindings.{upto_fault}
use Rattle.mach_dyld.specs.Rebases.{Rebase}
use Rattle.mach_dyld.specs.RebasesLeft as opcodes
use Rattle.goblin_mach.specs.FixupsLeft.{image_fixups_left}
use Rattle.goblin_mach.specs.ImageStreams.{rebases_among}
use Rattle.goblin_mach.specs.declared.rebases.ChainRebases.{ChainRebases}
use Rattle.goblin_mach.specs.declared.rebases.RebaseIterator.{RebaseIterator}

-- the rebases of the chains
unfoldable pub chain_rebases_left : ChainRebases → List (Result Rebase Fault)
chain_rebases_left it = rebases_among (image_fixups_left it.fixups)

-- the rebases of the opcodes, then those of the chains
unfoldable pub all_rebases_left : RebaseIterator → List (Result Rebase Fault)
all_rebases_left it = opcodes.opcode_rebases_left it.opcodes ++ chain_rebases_left it.chains

unfoldable pub rebases_left : RebaseIterator → List (Result Rebase Fault)
rebases_left it = if it.ended then [] else upto_fault (all_rebases_left it)
