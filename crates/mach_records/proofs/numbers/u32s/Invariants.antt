use Rattle.std.proofs.Common.{◌≡◌, ◌+◌, ◌*◌, length, drop, map}
use Rattle.mach_base.specs.Record.{num, number_is, spelled_after}
use Rattle.mach_records.proofs.numbers.u32s.Given as goal

abbrev pub invariant-loop-x : goal.invariant-loop-x
invariant-loop-x l = record {
  spelled : spelled_after l.le l.bytes (map (λ _. num 4) (drop l.x-index l.xs)) (map number_is (drop l.x-index l.xs))
      ≡ spelled_after l.le l.fn.front (map (λ _. num 4) l.xs) (map number_is l.xs);
  room : length l.bytes ≡ length l.fn.front + 4 * l.x-index;
}
