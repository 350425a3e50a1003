use Rattle.mach_dyld.proofs.BindingImports.{report_the_same}
use Rattle.mach_dyld.proofs.laws.bindings.bindings_are_imports.Goals as goal

pub returns : goal.returns
returns c = report_the_same
