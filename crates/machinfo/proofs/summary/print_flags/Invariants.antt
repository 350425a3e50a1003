use Rattle.std.proofs.Common.{ℕ, ◌++◌, ◌^◌}
use Rattle.std.specs.Prelude.{bit_and, codes}
use Rattle.std.specs.List.{flat_map, range_with_len}
use Rattle.std.specs.Io.KnownBytes.{Appends}
use Rattle.machinfo.specs.Summary.{flag_word}
use Rattle.machinfo.proofs.summary.print_flags.Given as goal

abbrev pub invariant-bits : goal.invariant-bits
invariant-bits g l =
    Appends (g.O.Write.contents l.fn.out) (g.O.Write.contents l.out)
    (codes "flags:" ++ flat_map (λ (bit : ℕ). flag_word (bit_and l.flags (2 ^ bit))) (range_with_len 0 l.bit))
