use Rattle.std.proofs.Common.{◌∙◌, ℕ, List, ap, length, map, min, subst}
use Rattle.mach_parts.specs.Segment.{segment_view}
use Rattle.mach_dyld.specs.BindLeft.{imports_left}
use Rattle.goblin_mach.specs.BindingsLeft.{bindings_left}
use Rattle.goblin_mach.specs.Facts.{HasFixups, HasBindings}
use Rattle.goblin_mach.specs.FixupsLeft.{image_fixups_left}
use Rattle.mach_audit.proofs.Images.{layout_judged, read_judged, judged_one, sections_judged, relocations_judged, symbols_judged, exports_judged}
use Rattle.mach_audit.proofs.Images.{imports_judged, signature_judged, parts_judged}
use Rattle.goblin_mach.specs.LayoutFacts.{HasLayoutFaults}
use Rattle.mach_audit.proofs.Reports.{image_reported}
use Rattle.mach_audit.proofs.Reported.{plain_from}
use Rattle.mach_audit.specs.Report.{ReportsImage}
use Rattle.mach_audit.specs.Sound.{IsSoundImage, HasLongList}
use Rattle.mach_audit.specs.Reported.{faults_from, relocation_faults, relocations_past}
use Rattle.mach_audit.specs.Verdicts.{Judges, verdict_of_parts}
use Rattle.mach_audit.specs.declared.report.ItemList.TheVariants as lists
use Rattle.mach_audit.specs.declared.report.Parts.{Parts}
use Rattle.mach_audit.proofs.file.audit_parts.Goals as goal

pub returns-clause-judged : goal.returns-clause-judged
returns-clause-judged g c = λ bytes image.
    let m = c.args.image.now in
    let limit = c.image_limit-limit.result in
    let parts : Parts g.row.B.Denot = record {
      sections = c.in_ok-sections.sections;
      relocations = c.in_ok-relocations.relocations;
      symbols = c.in_ok-symbols.symbols;
      exports = c.in_ok-exports.exports;
      imports = c.in_ok-imports.imports;
      fixups = c.in_ok-fixups.fixups;
      bindings = c.in_ok-bindings.bindings;
      signature = c.in_ok-signature.signature;
      layout = c.in_ok-layout.layout;
    } in
    let sections = rw c.as_slice-segments.ensures at c.in_ok-sections.ensures.reported in
    let relocations = rw (c.bytes-bytes.ensures, c.ctx-ctx.ensures, c.as_slice-segments.ensures) at c.in_ok-relocations.ensures.reported in
    let views = map segment_view m.segments.segments.items in
    let faults = relocation_faults m.ctx m.bytes.now views in
    let past = relocations_past m.ctx m.bytes.now views in
    let read = read_judged limit faults past parts.sections parts.relocations relocations (sections_judged bytes m image limit parts.sections sections)
    (λ q reports. relocations_judged bytes m image limit q reports) in
    let items = imports_left c.iter_imports.result in
    let are_items = c.import_items_of_image.ensures.strict bytes 0 image in
    let fixups = image_fixups_left c.fixups.result in
    let has_fixups = (c.fixups_of_image.ensures.strict bytes 0 image fixups).1 c.fixups.ensures in
    let bindings = bindings_left c.bindings.result in
    let has_bindings = (c.bindings_of_image.ensures.strict bytes 0 image bindings).1 c.bindings.ensures in
    let same = c.image_limit-limit.ensures ∙ ap (λ (ys : List ℕ). min c.args.limit (length ys)) (c.bytes-bytes.ensures ∙ image.fields.bytes_is) in
    subst (λ (n : ℕ). Judges (IsSoundImage bytes) (HasLongList n bytes) (verdict_of_parts parts)) same
    (parts_judged bytes m image limit parts read
    (symbols_judged bytes m image limit parts.symbols c.in_ok-symbols.ensures.reported c.in_ok-symbols.ensures.broken)
    (exports_judged bytes m image limit parts.exports c.in_ok-exports.ensures.reported c.faulty_tries_have_no_list.ensures)
    (imports_judged bytes m image limit items parts.imports c.iter_imports.ensures c.in_ok-imports.ensures.reported ((are_items items).1 c.iter_imports.ensures)
    (λ others h. (are_items others).0 h))
    (judged_one limit (HasFixups bytes 0) fixups (faults_from lists.Fixups 0 fixups) parts.fixups has_fixups
    (λ others h. c.one_list_of_image_fixups.ensures bytes 0 others fixups h has_fixups) (plain_from lists.Fixups 0 fixups) c.in_ok-fixups.ensures.reported)
    (judged_one limit (HasBindings bytes 0) bindings (faults_from lists.Bindings 0 bindings) parts.bindings has_bindings
    (λ others h. c.one_list_of_image_bindings.ensures bytes 0 others bindings h has_bindings) (plain_from lists.Bindings 0 bindings)
    c.in_ok-bindings.ensures.reported)
    (layout_judged (HasLayoutFaults bytes) parts.layout.items ((c.layout_faults_of_image.ensures.strict bytes image parts.layout.items).1
    c.in_ok-layout.ensures.reported)
    (λ list others. c.one_list_of_layout_faults.ensures bytes list others))
    (signature_judged bytes m image limit parts.signature c.in_ok-signature.ensures.reported))

pub returns-clause-reported : goal.returns-clause-reported
returns-clause-reported g c = λ bytes image.
    let m = c.args.image.now in
    let limit = c.image_limit-limit.result in
    let parts : Parts g.row.B.Denot = record {
      sections = c.in_ok-sections.sections;
      relocations = c.in_ok-relocations.relocations;
      symbols = c.in_ok-symbols.symbols;
      exports = c.in_ok-exports.exports;
      imports = c.in_ok-imports.imports;
      fixups = c.in_ok-fixups.fixups;
      bindings = c.in_ok-bindings.bindings;
      signature = c.in_ok-signature.signature;
      layout = c.in_ok-layout.layout;
    } in
    let items = imports_left c.iter_imports.result in
    let fixups = image_fixups_left c.fixups.result in
    let bindings = bindings_left c.bindings.result in
    let same = c.image_limit-limit.ensures ∙ ap (λ (ys : List ℕ). min c.args.limit (length ys)) (c.bytes-bytes.ensures ∙ image.fields.bytes_is) in
    subst (λ (n : ℕ). ReportsImage n bytes parts) same
    (image_reported limit bytes m image parts
    (rw c.as_slice-segments.ensures at c.in_ok-sections.ensures.reported)
    (rw (c.bytes-bytes.ensures, c.ctx-ctx.ensures, c.as_slice-segments.ensures) at c.in_ok-relocations.ensures.reported)
    c.in_ok-symbols.ensures.reported
    c.in_ok-exports.ensures.reported
    (items, (c.import_items_of_image.ensures.lossy bytes 0 image items).1 c.iter_imports.ensures, c.in_ok-imports.ensures.reported)
    (fixups, (c.fixups_of_image.ensures.lossy bytes 0 image fixups).1 c.fixups.ensures, c.in_ok-fixups.ensures.reported)
    (bindings, (c.bindings_of_image.ensures.lossy bytes 0 image bindings).1 c.bindings.ensures, c.in_ok-bindings.ensures.reported)
    c.in_ok-signature.ensures.reported
    ((c.layout_faults_of_image.ensures.lossy bytes image parts.layout.items).1 c.in_ok-layout.ensures.reported))
