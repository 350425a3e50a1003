use Rattle.std.proofs.Common.{rules}
use Rattle.std.proofs.lemmas.List.Sorted.{answers_always}
use Rattle.goblin_mach.proofs.MappedItems.{mapped_sorted, mapped_key}
use Rattle.goblin_mach.proofs.symbol_map.sorted_symbols.Goals as goal

pub returns-clause-mapped : goal.returns-clause-mapped
returns-clause-mapped g c =
    mapped_sorted _ _ _ c.in_ok-symbols.ensures.mapped c.sort_by_key.ensures.permutation
    (c.in_ok-sort_by_key.ensures.sorted mapped_key (answers_always _ _ _ (λ f a r g h. search rules)))
