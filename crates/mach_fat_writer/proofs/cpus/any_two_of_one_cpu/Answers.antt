use Rattle.std.proofs.Common.{◌==◌, None, ap, ◌∙◌}
use Rattle.std.proofs.lemmas.List.Sorted.{IsNonDecreasingBy-from_sort}
use Rattle.mach_fat_writer.specs.Entries.{any_two, any_again, entry_views}
use Rattle.mach_fat_writer.proofs.Pairs.{sort_reports, any_two_numbers}
use Rattle.mach_fat_writer.proofs.cpus.any_two_of_one_cpu.Goals as goal

pub returns : goal.returns
returns g c =
    let sorted = c.sort_unstable.new.self.items in
    c.any_again.ensures
    ∙ (ap (any_again None) c.as_slice.ensures.value
    ∙ (sort_reports c.in_ok-numbers.numbers.items sorted c.sort_unstable.ensures.permutation
    (IsNonDecreasingBy-from_sort (λ n. n) sorted c.sort_unstable.ensures.sorted)
    ∙ (ap (any_two (λ m n. m == n)) c.in_ok-numbers.ensures ∙ any_two_numbers (entry_views c.args.entries.now))))
