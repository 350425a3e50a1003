use Rattle.std.proofs.Common.{refl, sym}
use Rattle.goblin_mach.proofs.ImageFacts.{facts_are}
use Rattle.goblin_mach_c.specs.WeakBindsAfter.{AreWeakBindsWritten, WeakSource, weak_left_by, weak_rows_left, weak_sites_by, weak_source_of}
use Rattle.goblin_mach_c.proofs.FactsAfter.{weak_source_by}
use Rattle.goblin_mach_c.proofs.weak_binds.gmr_weak_binds.Goals as goal

pub returns-in-Ok-clause-written : goal.returns-in-Ok-clause-written
returns-in-Ok-clause-written c = λ _.
    let m = c.in-Ok.found in
    let x : WeakSource = weak_source_of m in
    let over = c.walk_after.ensures.over in
    let left = c.fill_items.ensures.over x over in
    let n = c.fill_items.result in
    (facts_are c.args.bytes.now c.args.image.now.offset m c.in-Ok.ensures.opened
    (λ f. AreWeakBindsWritten (weak_source_by f) c.args.cursor.now c.cursor.result c.args.out.now c.fill_items.new.out n)).1
    (record {
      items = weak_rows_left (record { walk = c.walk_after.result });
      following = record {
        rows = weak_left_by c.walk_after.result;
        sites = weak_sites_by c.walk_after.result;
        following = c.walk_after.ensures.items;
        sites_after = c.walk_after.ensures.sites;
        are = refl;
      };
      rows = c.fill_items.ensures.filled x over;
      rest = record {
        rows = weak_left_by c.fill_items.new.rows.walk;
        sites = weak_sites_by c.fill_items.new.rows.walk;
        following = c.cursor.ensures.items x left;
        sites_after = c.cursor.ensures.sites x left;
        are = sym (c.fill_items.ensures.rest x over);
      };
    })
