use Rattle.std.proofs.Common.{◌+◌, ◌-◌, ◌*◌, ◌∙◌, ap, arith, length, min}
use Rattle.mach_base.specs.Items.{items_from, records_in_bounds}
use Rattle.mach_base.proofs.InBounds.{in_bounds-items_from, past_after, past_bounded, same_test}
use Rattle.mach_load.specs.DataInCode.{data_in_code_item, data_in_code_of_values}
use Rattle.mach_load.proofs.data_in_code.DataInCodeIterator.in_bounds.Goals as goal

pub returns : goal.returns
returns c =
    let it = c.args.self.now in
    let item = data_in_code_item it.le it.bytes.now it.start in
    let in_bounds = records_in_bounds (length it.bytes.now) it.start 8 in
    ap (λ count. items_from item it.index (count - it.index)) (c.min.ensures ∙ ap (λ most. min it.count most) c.records_in_bounds-in_bounds.ensures)
    ∙ in_bounds-items_from item it.index it.count in_bounds
    (λ k. past_after _ data_in_code_of_values ∙ past_bounded 8 it.bytes.now (it.start + 8 * k) _
    ∙ same_test (length it.bytes.now) (it.start + 8 * k) in_bounds k (λ past. omega (arith, past)) (λ less. omega (arith, less)))
