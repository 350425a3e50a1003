use Rattle.std.proofs.Common.{◌<◌, ◌^◌, ℕ, suc, List, [], ◌∷◌, map, length, get_or, arith}
use Rattle.mach_base.specs.Record.{num, number_is, AllFit}
use Rattle.mach_records.proofs.numbers.u32s.Goals as goal

all_fit : (xs : List ℕ) → ((k : ℕ) → k < length xs → get_or xs k 0 < 256 ^ 4) → AllFit (map (λ _. num 4) xs) (map number_is xs)
all_fit [] fit = tt
all_fit (x ∷ xs) fit = (fit 0 (omega arith), all_fit xs (λ k h. fit (suc k) (omega arith)))

pub returns-clause-fits : goal.returns-clause-fits
returns-clause-fits c = all_fit c.args.xs.now (λ k h. omega (arith, c.type_inv.xs k))
