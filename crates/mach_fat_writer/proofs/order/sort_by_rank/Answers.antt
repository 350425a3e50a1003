use Rattle.std.proofs.Common.{◌≡◌, length, rules, ◌∙◌}
use Rattle.std.specs.BTreeMap as tree
use Rattle.std.proofs.lemmas.Fn.{always_returns_same}
use Rattle.mach_fat_writer.specs.Entries.{fat_entry_view, entry_views}
use Rattle.mach_fat_writer.specs.CreatedOrder.{fat_rank, fat_rank_by, alike_cmp}
use Rattle.mach_fat_writer.proofs.Firsts.{ranks_are}
use Rattle.mach_fat_writer.proofs.order.sort_by_rank.Goals as goal

pub returns-clause-sorted : goal.returns-clause-sorted
returns-clause-sorted g c =
    let given = c.args.entries.now in
    let first = tree.get alike_cmp c.args.firsts.now in
    c.in_ok-sort_by_cached_key.ensures.sorted (λ e. fat_rank (entry_views given) (fat_entry_view e))
    (always_returns_same _ _ _ (λ a r h called.
    let by : r ≡ fat_rank_by first (length given) (fat_entry_view a.0.now) = search rules in
    (by ∙ ranks_are given first (fat_entry_view a.0.now) c.requires, search rules)))

pub returns-clause-stable : goal.returns-clause-stable
returns-clause-stable g c =
    let given = c.args.entries.now in
    let first = tree.get alike_cmp c.args.firsts.now in
    c.sort_by_cached_key.ensures.stable (λ e. fat_rank (entry_views given) (fat_entry_view e))
    (always_returns_same _ _ _ (λ a r h called.
    let by : r ≡ fat_rank_by first (length given) (fat_entry_view a.0.now) = search rules in
    (by ∙ ranks_are given first (fat_entry_view a.0.now) c.requires, search rules)))
