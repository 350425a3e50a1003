-- Lists of reports on numbered things.
use Rattle.std.proofs.Common.{◌≡◌, ℕ, suc, ◌∷◌, ◌+◌, ◌-◌, ◌<◌, ◌≤◌, Bool, cond, List, [], Option, Some, None, refl, sym, ap, ◌∙◌, arith}
use Rattle.std.specs.Prelude.{filter_map, find}
use Rattle.std.specs.List.{range_with_len, cons_option}

-- the numbers from `next` on, if there is one more
pub range_first : (next count : ℕ) → next < count → range_with_len next (count - next) ≡ next ∷ range_with_len (next + 1) (count - (next + 1))
range_first next count inside =
    let one_more : count - next ≡ suc (count - (next + 1)) = omega (arith, inside) in
    ap (λ (n : ℕ). range_with_len next n) one_more

-- none are left if `next` reaches the count
pub range_none : (next count : ℕ) → count ≤ next → range_with_len next (count - next) ≡ []
range_none next count outside =
    let none : count - next ≡ 0 = omega (arith, outside) in
    ap (λ (n : ℕ). range_with_len next n) none

-- the reports from a number on
pub reported_first : {V : Type 0} (reports : ℕ → Option V) (next count : ℕ) → next < count
    → filter_map reports (range_with_len next (count - next)) ≡ cons_option (reports next) (filter_map reports (range_with_len (next + 1) (count - (next + 1))))
reported_first reports next count inside = ap (filter_map reports) (range_first next count inside)

pub reported_none : {V : Type 0} (reports : ℕ → Option V) (next count : ℕ) → count ≤ next → filter_map reports (range_with_len next (count - next)) ≡ []
reported_none reports next count outside = ap (filter_map reports) (range_none next count outside)

-- the number found from a number on
pub found_first : (test : ℕ → Bool) (next count : ℕ) → next < count
    → find test (range_with_len next (count - next)) ≡ cond (test next) (Some next) (find test (range_with_len (next + 1) (count - (next + 1))))
found_first test next count inside = ap (find test) (range_first next count inside)

pub found_none : (test : ℕ → Bool) (next count : ℕ) → count ≤ next → find test (range_with_len next (count - next)) ≡ None
found_none test next count outside = ap (find test) (range_none next count outside)
