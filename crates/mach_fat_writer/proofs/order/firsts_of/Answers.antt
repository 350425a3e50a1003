use Rattle.std.proofs.Common.{ap, sym, ◌∙◌, rules}
use Rattle.std.specs.BTreeMap as tree
use Rattle.mach_fat_writer.specs.CreatedOrder.{alike_cmp}
use Rattle.mach_fat_writer.proofs.Firsts.{firsts_kept, firsts_added}
use Rattle.mach_fat_writer.proofs.order.firsts_of.Goals.{then-not-contains_key+in_ok-insert, else-not-contains_key}
use Rattle.mach_fat_writer.proofs.order.firsts_of.Goals as goal

pub loop-index-preserved : goal.loop-index-preserved
loop-index-preserved g c =
    let es = c.args.entries.now in
    let i = c.loop-index.index in
    λ key. elim c.if-not-contains_key.branch [
      | then-not-contains_key+in_ok-insert w ↦
          ap (λ m. tree.get alike_cmp m key) w.firsts-is
          ∙ firsts_added es i _ (tree.get alike_cmp c.loop-index.firsts) (tree.get alike_cmp w.insert.new.self) c.loop-index-test.true
          c.loop-index.invariant (sym c.contains_key.ensures ∙ search rules) w.in_ok-insert.ensures.updates.0 key
      | else-not-contains_key w ↦
          ap (λ m. tree.get alike_cmp m key) w.firsts-is
          ∙ firsts_kept es i _ (tree.get alike_cmp c.loop-index.firsts) c.loop-index-test.true c.loop-index.invariant
          (sym c.contains_key.ensures ∙ search rules) key
    ]
