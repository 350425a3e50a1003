use Rattle.mach_dyld.proofs.BindSteps.{by_row}
use Rattle.mach_dyld.proofs.imports.iterator.ImportSettingsBindRules.execute.Goals as goal

pub returns-clause-value : goal.returns-clause-value
returns-clause-value c = rw (by_row c.args.pointer c.args.bytes.now c.args.state.now.place c.args.byte c.requires.byte) c.execute.ensures.value

pub returns-clause-site : goal.returns-clause-site
returns-clause-site c = rw (by_row c.args.pointer c.args.bytes.now c.args.state.now.place c.args.byte c.requires.byte) c.execute.ensures.site
