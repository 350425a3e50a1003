use Rattle.std.proofs.Common.{ℕ, List, Result, subst}
use Rattle.mach_base.specs.Fault.{Fault}
use Rattle.goblin_mach.proofs.ImageFacts.{facts_are}
use Rattle.goblin_mach.specs.Fixups.{base_view, base_of}
use Rattle.goblin_mach.specs.OpenImage.{bytes_view, commands_view}
use Rattle.goblin_mach.specs.Tables.{starts_place_in}
use Rattle.goblin_mach_c.specs.StartsAfter.{AreStartsAfterCursor, AreStartsWritten, function_start_row, start_rows_left, starts_source}
use Rattle.goblin_mach_c.proofs.Said.{mapped_fills}
use Rattle.goblin_mach_c.proofs.starts.gmr_function_starts.Goals as goal

pub returns-in-Ok-clause-written : goal.returns-in-Ok-clause-written
returns-in-Ok-clause-written c = λ _.
    let m = c.in-Ok.found in
    let bytes = bytes_view m in
    let range = starts_place_in (commands_view m) in
    let x = starts_source bytes range in
    let over = c.following-rows.ensures.over in
    let items = start_rows_left c.following-rows.result in
    let n = c.fill_items.result in
    (facts_are c.args.bytes.now c.args.image.now.offset m c.in-Ok.ensures.opened
    (λ f. AreStartsWritten f.bytes (starts_place_in f.commands) (base_of f.segments) c.args.cursor.now c.cursor.result c.args.out.now c.fill_items.new.out n)).1
    (record {
      items = items;
      following = c.following-rows.ensures.items;
      rows = mapped_fills function_start_row items c.args.out.now c.fill_items.new.out n (c.fill_items.ensures.filled x over);
      rest = subst (λ (l : List (Result ℕ Fault)). AreStartsAfterCursor c.cursor.result bytes range (base_view m) l) (c.fill_items.ensures.rest x over)
          (c.cursor.ensures.items bytes range (base_view m) (c.fill_items.ensures.over x over));
    })
