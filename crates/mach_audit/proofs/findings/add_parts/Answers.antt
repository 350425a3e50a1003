use Rattle.std.proofs.Common.{◌++◌, map, rules}
use Rattle.mach_audit.specs.declared.findings.AuditedPart.TheVariants as parts
use Rattle.mach_audit.specs.Findings.{AddsFindings, laid_wrongly, part_found, found_there, records_found, relocations_found, signature_found}
use Rattle.mach_audit.proofs.FindingsAdded.{adds_more}
use Rattle.mach_audit.proofs.findings.add_parts.Goals as goal

pub returns : goal.returns
returns g c = record {
  added =
      let p = c.args.parts.now in
      let at = c.args.place in
      let end = c.add_kept.new.out.items in
      let layout = map laid_wrongly p.layout.items in
      let signature = signature_found p.signature ++ layout in
      let bindings = part_found parts.Bindings p.bindings ++ signature in
      let fixups = part_found parts.Fixups p.fixups ++ bindings in
      let imports = part_found parts.Imports p.imports ++ fixups in
      let exports = part_found parts.Exports p.exports ++ imports in
      let symbols = records_found parts.Symbols p.symbols ++ exports in
      let relocations = relocations_found p.relocations ++ symbols in
      let laid : AddsFindings c.add_signature.new.out.items end (found_there at layout) = search rules in
      let a = adds_more at c.add_part-4.new.out.items c.add_signature.new.out.items end (signature_found p.signature) layout
      c.in_ok-add_signature.ensures.added laid in
      let b = adds_more at c.add_part-3.new.out.items c.add_part-4.new.out.items end (part_found parts.Bindings p.bindings) signature
      c.in_ok-add_part-4.ensures.added a in
      let d = adds_more at c.add_part-2.new.out.items c.add_part-3.new.out.items end (part_found parts.Fixups p.fixups) bindings
      c.in_ok-add_part-3.ensures.added b in
      let e = adds_more at c.add_part.new.out.items c.add_part-2.new.out.items end (part_found parts.Imports p.imports) fixups
      c.in_ok-add_part-2.ensures.added d in
      let f = adds_more at c.add_records-2.new.out.items c.add_part.new.out.items end (part_found parts.Exports p.exports) imports
      c.in_ok-add_part.ensures.added e in
      let h = adds_more at c.add_relocations.new.out.items c.add_records-2.new.out.items end (records_found parts.Symbols p.symbols) exports
      c.in_ok-add_records-2.ensures.added f in
      let k = adds_more at c.add_records.new.out.items c.add_relocations.new.out.items end (relocations_found p.relocations) symbols
      c.in_ok-add_relocations.ensures.added h in
      adds_more at c.args.out.now.items c.add_records.new.out.items end (records_found parts.Sections p.sections) relocations
      c.in_ok-add_records.ensures.added k;
}
