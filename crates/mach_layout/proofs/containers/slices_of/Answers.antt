use Rattle.std.proofs.Common.{◌<◌, ◌+◌, ◌-◌, List, ◌++◌, sym, ap, ◌∙◌, arith}
use Rattle.mach_layout.specs.Containers.{slice_count, slices_from}
use Rattle.mach_layout.specs.declared.containers.PlacedSlice.{PlacedSlice}
use Rattle.mach_layout.proofs.Slices.{slices_next, slices_end}
use Rattle.mach_layout.proofs.containers.slices_of.Goals as goal

pub returns-in_default-clause-listed : goal.returns-in_default-clause-listed
returns-in_default-clause-listed g c =
    let bytes = c.args.bytes.now in
    let k = c.loop-number.number in
    let lt : k < slice_count bytes = omega (arith, c.slice_count-number-end.ensures) in
    sym (slices_end g.R.ArchRecord.arch_form bytes k (slice_count bytes) _ c.loop-number.slices.items lt c.in_default.ensures) ∙ c.loop-number.invariant

pub loop-number-preserved : goal.loop-number-preserved
loop-number-preserved g c =
    let bytes = c.args.bytes.now in
    let k = c.loop-number.number in
    let lt : k < slice_count bytes = omega (arith, c.slice_count-number-end.ensures) in
    ap (λ (found : List PlacedSlice). found ++ slices_from g.R.ArchRecord.arch_form bytes (k + 1) (slice_count bytes - (k + 1))) c.in_ok-push.ensures.items
    ∙ slices_next g.R.ArchRecord.arch_form bytes k (slice_count bytes) c.in-Ok.slice c.loop-number.slices.items lt c.in-Ok.ensures ∙ c.loop-number.invariant
