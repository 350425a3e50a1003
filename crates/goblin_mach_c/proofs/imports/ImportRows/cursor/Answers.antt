use Rattle.std.proofs.Common.{◌∙◌, sym, ap, subst}
use Rattle.mach_dyld.specs.Imports.{input_in}
use Rattle.goblin_mach_c.specs.ImportsAfter.{AreImportRowsOver, imports_in_rows, stream_sites_after, sites_in_rows, streams_after}
use Rattle.goblin_mach_c.proofs.imports.ImportRows.cursor.Goals as goal

pub returns-in-Binds-clause-items : goal.returns-in-Binds-clause-items
returns-in-Binds-clause-items c = λ x over.
    let o = subst (AreImportRowsOver x) c.in-Binds.is over in
    ap imports_in_rows c.in-Binds.is ∙ sym (c.cursor.ensures.items (input_in o.0 x.1.pointer x.1.libs x.1.segments) o.0.lazy o.3)
    ∙ sym (ap (λ r. streams_after c.cursor.result r x.1) o.1)

pub returns-in-Binds-clause-sites : goal.returns-in-Binds-clause-sites
returns-in-Binds-clause-sites c = λ x over.
    let o = subst (AreImportRowsOver x) c.in-Binds.is over in
    ap sites_in_rows c.in-Binds.is ∙ sym (c.cursor.ensures.sites (input_in o.0 x.1.pointer x.1.libs x.1.segments) o.0.lazy o.3)
    ∙ sym (ap (λ r. stream_sites_after c.cursor.result r x.1) o.1)
