use Rattle.std.proofs.Common.{◌≡◌, ◌^◌, ◌∙◌, ◌++◌, ℕ, subst, arith}
use Rattle.std.specs.Prelude.{bit_and, codes}
use Rattle.std.specs.List.{flat_map, range_with_len}
use Rattle.std.specs.Io.KnownBytes.{Appends}
use Rattle.std.proofs.lemmas.Result.{on_ok_weaker}
use Rattle.mach_base.proofs.Written.{Appends-both}
use Rattle.machinfo.specs.Summary.{flag_word}
use Rattle.machinfo.proofs.Flags.{bit_of, one_more_flag}
use Rattle.machinfo.proofs.summary.print_flags.Goals as goal

pub bits-preserved : goal.bits-preserved
bits-preserved g c =
    let bit : c.wrapping_shl.result ≡ 2 ^ c.bits.bit = c.wrapping_shl.ensures ∙ bit_of c.bits.bit c.bits-test.true in
    rw (one_more_flag c.args.flags c.bits.bit) (Appends-both _ _ _ _ _ c.bits.invariant (rw bit at c.in_ok-print_flag.ensures))

pub returns : goal.returns
returns g c =
    let end : c.bits.bit ≡ 32 = omega (arith, c.bits-test.false, c.bits.auto.bit-end) in
    let words = λ (n : ℕ). codes "flags:" ++ flat_map (λ (bit : ℕ). flag_word (bit_and c.args.flags (2 ^ bit))) (range_with_len 0 n) in
    let front = subst (λ (n : ℕ). Appends (g.O.Write.contents c.args.out.now) (g.O.Write.contents c.bits.out) (words n)) end c.bits.invariant in
    on_ok_weaker c.writeln.result (λ last. Appends-both _ _ _ (words 32) (codes "\n") front last) c.writeln.ensures.bytes
