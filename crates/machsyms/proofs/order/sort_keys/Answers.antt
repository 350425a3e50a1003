use Rattle.std.proofs.Common.{rules}
use Rattle.std.proofs.lemmas.List.Sorted.{answers_always}
use Rattle.machsyms.proofs.order.sort_keys.Goals as goal

-- in descending order
pub returns-then-is_reversed : goal.returns-then-is_reversed
returns-then-is_reversed g c = rw c.if-is_reversed.true (record {
  each_once = c.in_ok-sort_by_key.ensures.permutation;
  sorted = c.in_ok-sort_by_key.ensures.sorted (λ k. record { 0 = k.rank }) (answers_always _ _ _ (λ f a r g h. search rules));
  stable = c.in_ok-sort_by_key.ensures.stable (λ k. record { 0 = k.rank }) (answers_always _ _ _ (λ f a r g h. search rules));
})

pub returns : goal.returns
returns g c = rw c.if-is_reversed.false (record {
  each_once = c.in_ok-sort_by_key-2.ensures.permutation;
  sorted = c.in_ok-sort_by_key-2.ensures.sorted (λ k. k.rank) (answers_always _ _ _ (λ f a r g h. search rules));
  stable = c.in_ok-sort_by_key-2.ensures.stable (λ k. k.rank) (answers_always _ _ _ (λ f a r g h. search rules));
})
