use Rattle.std.proofs.Common.{refl, sym}
use Rattle.goblin_mach.proofs.ImageFacts.{facts_are}
use Rattle.goblin_mach_c.specs.ImportsAfter.{AreImportsWritten, Binds, binds_of_image, imports_in_rows, import_rows_left, sites_in_rows}
use Rattle.goblin_mach_c.proofs.HeldBinds.{binds_occur}
use Rattle.goblin_mach_c.proofs.FactsAfter.{binds_by}
use Rattle.goblin_mach_c.proofs.imports.gmr_opcode_imports.Goals as goal

pub returns-in-Ok-clause-written : goal.returns-in-Ok-clause-written
returns-in-Ok-clause-written c = λ _.
    let m = c.in-Ok.found in
    let bytes = c.args.bytes.now in
    let x : Binds = binds_of_image m in
    let over = c.following-rows.ensures.over bytes (binds_occur bytes c.args.image.now.offset m c.in-Ok.ensures.opened) in
    let n = c.fill_items.result in
    (facts_are bytes c.args.image.now.offset m c.in-Ok.ensures.opened
    (λ f. AreImportsWritten bytes (binds_by f) c.args.cursor.now c.cursor.result c.args.out.now c.fill_items.new.out n)).1
    (record {
      items = import_rows_left c.following-rows.result;
      following = record {
        imports = imports_in_rows c.following-rows.result;
        sites = sites_in_rows c.following-rows.result;
        following = c.following-rows.ensures.items;
        sites_after = c.following-rows.ensures.sites;
        are = refl;
      };
      rows = c.fill_items.ensures.filled (bytes, x) over;
      rest = record {
        imports = imports_in_rows c.fill_items.new.rows;
        sites = sites_in_rows c.fill_items.new.rows;
        following = c.cursor.ensures.items (bytes, x) (c.fill_items.ensures.over (bytes, x) over);
        sites_after = c.cursor.ensures.sites (bytes, x) (c.fill_items.ensures.over (bytes, x) over);
        are = sym (c.fill_items.ensures.rest (bytes, x) over);
      };
    })
