use Rattle.std.proofs.Common.{List, Result, subst}
use Rattle.mach_base.specs.Fault.{Fault}
use Rattle.mach_chained.specs.Fixups.{Fixup}
use Rattle.goblin_mach.proofs.ImageFacts.{facts_are}
use Rattle.goblin_mach.specs.Fixups.{chained_view}
use Rattle.goblin_mach.specs.OpenImage.{segments_view}
use Rattle.goblin_mach_c.specs.FixupRows.{fixup_row}
use Rattle.goblin_mach_c.specs.FixupsAfter.{AreFixupsAfter, AreFixupsWritten, FixupSource, fixup_rows_left}
use Rattle.goblin_mach_c.proofs.FactsAfter.{chains_by}
use Rattle.goblin_mach_c.proofs.Said.{mapped_fills}
use Rattle.goblin_mach_c.proofs.fixups.gmr_fixups.Goals as goal

pub returns-in-Ok-clause-written : goal.returns-in-Ok-clause-written
returns-in-Ok-clause-written c = λ _.
    let m = c.in-Ok.found in
    let x : FixupSource = record { chained = chained_view m; segments = segments_view m } in
    let over = c.following-rows.ensures.over in
    let items = fixup_rows_left c.following-rows.result in
    let n = c.fill_items.result in
    (facts_are c.args.bytes.now c.args.image.now.offset m c.in-Ok.ensures.opened
    (λ f. AreFixupsWritten (chains_by f) f.segments c.args.cursor.now c.cursor.result c.args.out.now c.fill_items.new.out n)).1
    (record {
      items = items;
      following = c.following-rows.ensures.items;
      rows = mapped_fills fixup_row items c.args.out.now c.fill_items.new.out n (c.fill_items.ensures.filled x over);
      rest = subst (λ (l : List (Result Fixup Fault)). AreFixupsAfter c.cursor.result x.chained x.segments l) (c.fill_items.ensures.rest x over)
          (c.cursor.ensures.items x (c.fill_items.ensures.over x over));
    })
