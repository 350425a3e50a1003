use Rattle.std.proofs.Common.{refl, sym, ◌∙◌}
use Rattle.mach_fat_writer.specs.Entries.{entry_views}
use Rattle.mach_fat_writer.specs.FatWrites.{far_aligned, one_cpu_twice, too_far, is_far_aligned}
use Rattle.mach_fat_writer.proofs.Laid.{any_of_views}
use Rattle.mach_fat_writer.proofs.Files.{file_far, file_twice, file_too_far, file_is}
use Rattle.mach_fat_writer.proofs.write.declared_ends.Goals as goal

pub returns-then-any_far_aligned-clause-there : goal.returns-then-any_far_aligned-clause-there
returns-then-any_far_aligned-clause-there g c = (
  far_aligned,
  file_far g.R.FatRecord.form (entry_views c.args.entries.now)
      (sym (any_of_views is_far_aligned c.args.entries.now) ∙ (sym c.any_far_aligned.ensures ∙ c.if-any_far_aligned.true)),
  refl,
)

pub ends_of-requires : goal.ends_of-requires
ends_of-requires g c = sym (any_of_views is_far_aligned c.args.entries.now) ∙ (sym c.any_far_aligned.ensures ∙ c.if-any_far_aligned.false)

pub returns-then-branch-clause-there : goal.returns-then-branch-clause-there
returns-then-branch-clause-there g c = (
  one_cpu_twice,
  file_twice g.R.FatRecord.form (entry_views c.args.entries.now)
      (sym (any_of_views is_far_aligned c.args.entries.now) ∙ (sym c.any_far_aligned.ensures ∙ c.if-any_far_aligned.false))
      (sym c.in_ok-any_two_of_one_cpu.ensures ∙ c.if-branch.true),
  refl,
)

pub returns-clause-there : goal.returns-clause-there
returns-clause-there g c = (
  too_far,
  file_too_far g.R.FatRecord.form (entry_views c.args.entries.now)
      (sym (any_of_views is_far_aligned c.args.entries.now) ∙ (sym c.any_far_aligned.ensures ∙ c.if-any_far_aligned.false))
      (sym c.in_ok-any_two_of_one_cpu.ensures ∙ c.if-branch.false) c.in-None.ensures,
  refl,
)

pub returns-in-Some-clause-there : goal.returns-in-Some-clause-there
returns-in-Some-clause-there g c =
    file_is g.R.FatRecord.form (entry_views c.args.entries.now)
    (sym (any_of_views is_far_aligned c.args.entries.now) ∙ (sym c.any_far_aligned.ensures ∙ c.if-any_far_aligned.false))
    (sym c.in_ok-any_two_of_one_cpu.ensures ∙ c.if-branch.false) c.in-Some.ensures.0

pub returns-in-Some-clause-aligned : goal.returns-in-Some-clause-aligned
returns-in-Some-clause-aligned g c = sym (any_of_views is_far_aligned c.args.entries.now) ∙ (sym c.any_far_aligned.ensures ∙ c.if-any_far_aligned.false)
