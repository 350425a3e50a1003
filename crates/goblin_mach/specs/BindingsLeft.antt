-- What is left of an iterator over the bindings of an image.
use Rattle.std.specs.Prelude.{List, [], ◌++◌, Result, if◌then◌else◌}
use Rattle.mach_base.specs.Fault.{Fault}
use Rattle.mach_parts.specs.Bindings.{Binding}
use Rattle.mach_dyld.specs.Bindings.{upto_fault}
use Rattle.mach_dyld.specs.BindingsLeft as opcodes
use Rattle.mach_chained.specs.BindingViews as chains
use Rattle.goblin_mach.specs.FixupsLeft.{reported_first}
use Rattle.goblin_mach.specs.declared.bindings.BindingIterator.{BindingIterator}
use Rattle.goblin_mach.specs.declared.bindings.ChainBindings.{ChainBindings}

-- the bindings of the chains
unfoldable pub chain_bindings_left : ChainBindings → List (Result Binding Fault)
chain_bindings_left it = reported_first it.refusal ++ chains.chained_bindings_left it.bindings

-- the bindings of the opcodes, then those of the chains
unfoldable pub all_bindings_left : BindingIterator → List (Result Binding Fault)
all_bindings_left it = opcodes.opcode_bindings_left it.opcodes ++ chain_bindings_left it.chains

unfoldable pub bindings_left : BindingIterator → List (Result Binding Fault)
bindings_left it = if it.ended then [] else upto_fault (all_bindings_left it)
