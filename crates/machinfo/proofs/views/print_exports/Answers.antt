use Rattle.std.proofs.Common.{[], Bool, refl, subst}
use Rattle.std.specs.Prelude.{◌&&◌, codes, not}
use Rattle.mach_base.specs.Text.{texts}
use Rattle.mach_base.proofs.Written.{Appends-none}
use Rattle.goblin_mach.specs.OpenImage.{trie_view}
use Rattle.goblin_mach.specs.Subjects.{trie_or_empty}
use Rattle.mach_cli.proofs.Listings.{rows_and_ends}
use Rattle.mach_cli.specs.Listings.{AreFirstLines}
use Rattle.machinfo.specs.ExportRows.{HasExportFields, export_rows, fields_of_exports}
use Rattle.machinfo.specs.Headings.{exports_heading}
use Rattle.machinfo.specs.ImageLines.{AreListedLines}
use Rattle.machinfo.specs.declared.export_rows.ExportForm.TheVariants.{Lines}
use Rattle.machinfo.proofs.ExportRows.{and_true, fields_are}
use Rattle.machinfo.proofs.Headings.{under_heading}
use Rattle.machinfo.proofs.views.print_exports.Goals as goal

pub returns-clause-shown : goal.returns-clause-shown
returns-clause-shown g c = λ bytes opened.
    let image = c.args.image.now in
    let left = c.args.left in
    let base = c.base.result in
    let shown = c.in_ok-shown.shown in
    let new = g.O.Write.contents c.print_cut.new.out in
    let written = c.in_ok-shown.ensures (trie_or_empty (trie_view image)) (texts image.libs.items) c.in_ok-walk.ensures.given in
    let rows = export_rows Lines base written.0 in
    let ends = rows_and_ends (codes "refused") c.args.limit left rows [] 0 shown _ _ new new written.2 c.in_ok-print_cut.ensures (Appends-none new) in
    under_heading c.args.has_headings exports_heading exports_heading (AreListedLines (HasExportFields left bytes) c.args.limit left) ends.text _ _ _ _ _ refl
    c.in_ok-print_heading.ensures
    (record {
      fields = fields_of_exports base written.0;
      has = fields_are bytes image opened base left written.0 c.base.ensures written.1;
      lines = subst (λ (w : Bool). AreFirstLines (codes "refused") c.args.limit left rows [] 0 ends.text w shown.left)
          (and_true (shown.whole && not shown.more)) ends.lines;
    })
    ends.written
