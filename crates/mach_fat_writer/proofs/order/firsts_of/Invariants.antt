use Rattle.std.proofs.Common.{◌≡◌, ℕ, take}
use Rattle.std.specs.BTreeMap as tree
use Rattle.mach_fat_writer.specs.Entries.{entry_views}
use Rattle.mach_fat_writer.specs.CreatedOrder.{first_keyed, alike_cmp}
use Rattle.mach_fat_writer.proofs.order.firsts_of.Given as goal

abbrev pub invariant-loop-index : goal.invariant-loop-index
invariant-loop-index g l = (key : ℕ × ℕ) → tree.get alike_cmp l.firsts key ≡ first_keyed (entry_views (take l.index l.entries)) key
