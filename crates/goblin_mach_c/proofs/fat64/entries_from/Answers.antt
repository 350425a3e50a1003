use Rattle.std.proofs.Common.{◌∙◌, Bool, ℕ, drop, ap}
use Rattle.mach_base.specs.Items.{items_from}
use Rattle.goblin_mach_c.specs.WideFatRows.{wide_count, wide_row_at}
use Rattle.goblin_mach_c.proofs.fat64.entries_from.Goals as goal

pub returns : goal.returns
returns c =
    let bytes = c.args.bytes.now in
    let by_count = λ (count : ℕ). drop c.args.first (items_from (wide_row_at c.begins_fat_64-is_64.result bytes) 0 count) in
    let by_form = λ (is_64 : Bool). drop c.args.first (items_from (wide_row_at is_64 bytes) 0 (wide_count is_64 bytes)) in
    c.rows_from.ensures ∙ ap by_count c.count_by-count.ensures ∙ ap by_form c.begins_fat_64-is_64.ensures
