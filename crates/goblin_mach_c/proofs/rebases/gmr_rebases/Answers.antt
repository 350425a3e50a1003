use Rattle.std.proofs.Common.{List, Result, subst}
use Rattle.mach_base.specs.Fault.{Fault}
use Rattle.mach_dyld.specs.Rebases.{Rebase}
use Rattle.goblin_mach.proofs.ImageFacts.{facts_are}
use Rattle.goblin_mach_c.specs.RebaseRows.{gm_rebase_view}
use Rattle.goblin_mach_c.specs.RebasesAfter.{AreRebasesAfter, AreRebasesWritten, RebaseSource, rebase_rows_left, rebase_source_of}
use Rattle.goblin_mach_c.proofs.FactsAfter.{rebase_source_by}
use Rattle.goblin_mach_c.proofs.Said.{mapped_fills}
use Rattle.goblin_mach_c.proofs.rebases.gmr_rebases.Goals as goal

pub returns-in-Ok-clause-written : goal.returns-in-Ok-clause-written
returns-in-Ok-clause-written c = λ _.
    let m = c.in-Ok.found in
    let x : RebaseSource = rebase_source_of m in
    let over = c.following-rows.ensures.over in
    let items = rebase_rows_left c.following-rows.result in
    let n = c.fill_items.result in
    (facts_are c.args.bytes.now c.args.image.now.offset m c.in-Ok.ensures.opened
    (λ f. AreRebasesWritten (rebase_source_by f) c.args.cursor.now c.cursor.result c.args.out.now c.fill_items.new.out n)).1
    (record {
      items = items;
      following = c.following-rows.ensures.items;
      rows = mapped_fills gm_rebase_view items c.args.out.now c.fill_items.new.out n (c.fill_items.ensures.filled x over);
      rest = subst (λ (l : List (Result Rebase Fault)). AreRebasesAfter c.cursor.result x l) (c.fill_items.ensures.rest x over)
          (c.cursor.ensures.items x (c.fill_items.ensures.over x over));
    })
