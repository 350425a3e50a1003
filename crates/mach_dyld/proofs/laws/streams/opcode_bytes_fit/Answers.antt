use Rattle.mach_dyld.proofs.OpcodesFit.{import_bytes_lem, binding_bytes_lem, weak_bytes_lem, rebase_bytes_lem}
use Rattle.mach_dyld.proofs.laws.streams.opcode_bytes_fit.Goals as goal

pub returns-clause-imports : goal.returns-clause-imports
returns-clause-imports c = import_bytes_lem

pub returns-clause-bindings : goal.returns-clause-bindings
returns-clause-bindings c = binding_bytes_lem

pub returns-clause-weak_binds : goal.returns-clause-weak_binds
returns-clause-weak_binds c = weak_bytes_lem

pub returns-clause-rebases : goal.returns-clause-rebases
returns-clause-rebases c = rebase_bytes_lem
