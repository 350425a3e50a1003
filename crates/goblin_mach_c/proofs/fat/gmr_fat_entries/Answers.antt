use Rattle.std.proofs.Common.{◌∙◌, ℕ, List, drop, length, ap, subst}
use Rattle.mach_base.specs.Items.{items_from}
use Rattle.goblin_mach.specs.FatFile.{arch_at}
use Rattle.goblin_mach_c.specs.FatRows.{fat_row}
use Rattle.goblin_mach_c.specs.Fill.{Fills}
use Rattle.goblin_mach_c.specs.declared.fat.gm_fat_entry.{gm_fat_entry}
use Rattle.goblin_mach_c.proofs.fat.gmr_fat_entries.Goals as goal

pub returns : goal.returns
returns c =
    let rows = λ (count : ℕ). drop c.args.first (items_from (λ k. fat_row (length c.args.bytes.now) (arch_at c.args.bytes.now k)) 0 count) in
    subst (λ (l : List gm_fat_entry). Fills l c.args.out.now c.fill.new.out c.fill.result)
    (c.rows_from-rows.ensures ∙ ap rows c.reported_of.ensures) c.fill.ensures.filled
