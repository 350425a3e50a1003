use Rattle.mach_dyld.proofs.imports.BindInterpreter.imports_from.Goals as goal

pub returns-clause-items : goal.returns-clause-items
returns-clause-items c = c.stream_from.ensures.items

pub returns-clause-sites : goal.returns-clause-sites
returns-clause-sites c = c.stream_from.ensures.sites
