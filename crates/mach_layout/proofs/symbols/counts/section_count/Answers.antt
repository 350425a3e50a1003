use Rattle.std.proofs.Common.{◌≡◌, ◌∙◌, ◌+◌, ◌-◌, ◌<◌, ◌^◌, min, map, sym, ap, arith}
use Rattle.std.proofs.lemmas.List.{drop_all}
use Rattle.std.specs.Prelude.{sum_by}
use Rattle.mach_load.specs.Variants.{command_of}
use Rattle.mach_layout.specs.Laid.{placed_segment_of}
use Rattle.mach_layout.specs.Symbols.{nsects_of}
use Rattle.mach_layout.proofs.symbols.counts.section_count.Goals as goal

pub returns : goal.returns
returns c =
    let count = c.loop-command.count in
    let fits : count < 2 ^ 64 = c.loop-command.invariant.fits in
    let all : count ≡ min (count + 0) (2 ^ 64 - 1) = omega (arith, fits) in
    let none = drop_all c.loop-command.command-index c.args.layout.now.commands.now c.loop-command-test.false in
    all
    ∙ sym (ap (λ left. min (count + sum_by (λ x. nsects_of (placed_segment_of x)) (map command_of left)) (2 ^ 64 - 1)) none)
    ∙ c.loop-command.invariant.counted
