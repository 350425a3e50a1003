use Rattle.std.proofs.Common.{◌-◌, ◌∙◌, sym, ap, arith}
use Rattle.mach_base.specs.Items.{items_from}
use Rattle.goblin_mach_c.proofs.Filled.{items_after, no_items}
use Rattle.goblin_mach_c.proofs.numbered.rows_from.Goals as goal
use Rattle.goblin_mach_c.proofs.numbered.rows_from.Goals.{then-first-count, else-first-count}

pub returns : goal.returns
returns g c =
    let item = g.S.Numbered.item c.args.source in
    let following = items_after item c.args.count c.args.first in
    elim c.if-first-count.branch [
      | then-first-count w ↦ ap (λ n. items_from item n (c.args.count - n)) w.next-is ∙ sym following
      | else-first-count w ↦ (
          let past = w.if-first-count.false in
          ap (λ n. items_from item n (c.args.count - n)) w.next-is ∙ no_items item c.args.count (c.args.count - c.args.count) (omega arith)
          ∙ sym (no_items item c.args.first (c.args.count - c.args.first) (omega (arith, past))) ∙ sym following)
    ]
