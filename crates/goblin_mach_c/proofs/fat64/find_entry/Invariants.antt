use Rattle.std.proofs.Common.{◌≡◌, ◌-◌}
use Rattle.std.specs.List.{find}
use Rattle.mach_base.specs.Items.{items_from}
use Rattle.goblin_mach_c.specs.WideFatRows.{indexed_rows, is_for, wide_row_at}
use Rattle.goblin_mach_c.proofs.fat64.find_entry.Given as goal

abbrev pub invariant-entries : goal.invariant-entries
invariant-entries l =
    find (λ entry. is_for l.cputype l.cpusubtype entry.1) (items_from (λ k. (k, wide_row_at l.is_64 l.bytes k)) l.index (l.count - l.index))
    ≡ find (λ entry. is_for l.cputype l.cpusubtype entry.1) (indexed_rows l.bytes)
