use Rattle.std.proofs.Common.{◌∙◌, ◌<◌, ◌^◌, ℕ, List, sym, subst, arith, length}
use Rattle.goblin_mach.proofs.ImageFacts.{facts_are}
use Rattle.goblin_mach_c.specs.BindingsAfter.{AreBindingsWritten, ArePlacedAfter, BindingSource, placed_left, source_of}
use Rattle.goblin_mach_c.proofs.HeldBinds.{binds_occur}
use Rattle.goblin_mach_c.proofs.FactsAfter.{source_by}
use Rattle.goblin_mach_c.proofs.bindings.gmr_bindings.Goals as goal

pub returns-in-Ok-clause-written : goal.returns-in-Ok-clause-written
returns-in-Ok-clause-written c = λ _.
    let m = c.in-Ok.found in
    let bytes = c.args.bytes.now in
    let o = c.args.image.now.offset in
    let opened = c.in-Ok.ensures.opened in
    let x : BindingSource = source_of m in
    let held = opened.fields.bytes_is in
    let short = subst (λ (b : List ℕ). length b < 2 ^ 64) (sym held) (omega arith) in
    let over = c.following-rows.ensures.over (λ b is. binds_occur bytes o m opened b is ∙ sym held) short in
    let n = c.fill_items.result in
    (facts_are bytes o m opened (λ f. AreBindingsWritten (source_by f) c.args.cursor.now c.cursor.result c.args.out.now c.fill_items.new.out n)).1
    (record {
      items = placed_left c.following-rows.result;
      following = c.following-rows.ensures.placed;
      rows = c.fill_items.ensures.filled x over;
      rest = subst (ArePlacedAfter c.cursor.result x) (c.fill_items.ensures.rest x over) (c.cursor.ensures.placed x (c.fill_items.ensures.over x over));
    })
