use Rattle.std.proofs.Common.{refl}
use Rattle.goblin_mach.specs.BindingsLeft.{bindings_left}
use Rattle.goblin_mach.specs.AllStretches.{parts_view}
use Rattle.machinfo.specs.Headings.{imports_heading}
use Rattle.machinfo.specs.ImageLines.{AreListedLines}
use Rattle.machinfo.specs.Imports.{HasImportFields, fields_of_imports}
use Rattle.machinfo.proofs.Facts.{import_fields_are}
use Rattle.machinfo.proofs.Headings.{under_heading}
use Rattle.machinfo.proofs.views.print_imports.Goals as goal

pub returns-clause-shown : goal.returns-clause-shown
returns-clause-shown g c = λ bytes opened.
    let parts = parts_view c.in_ok-parts.parts in
    let found = c.in_ok-parts.ensures bytes 0 opened in
    let items = bindings_left c.bindings.result in
    let listed = c.in_ok-print_listing.ensures in
    under_heading c.args.has_headings imports_heading imports_heading (AreListedLines (HasImportFields bytes) c.args.limit c.args.left) listed.text _ _ _ _ _
    refl c.in_ok-print_heading.ensures
    (record {
      fields = fields_of_imports parts items;
      has = import_fields_are c.args.image.now bytes 0 opened parts found.0 found.1 found.2 items c.bindings.ensures refl;
      lines = listed.lines;
    })
    listed.written
