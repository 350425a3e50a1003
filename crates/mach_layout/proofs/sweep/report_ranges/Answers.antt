use Rattle.std.proofs.Common.{◌∙◌, ap, refl, [], ◌++◌, rules}
use Rattle.std.proofs.lemmas.List.Sorted.{answers_always}
use Rattle.mach_layout.specs.Sweep.{shared_after}
use Rattle.mach_layout.specs.declared.claim.Claim.{Claim}
use Rattle.mach_layout.proofs.sweep.report_ranges.Goals as goal

pub returns-clause-reported : goal.returns-clause-reported
returns-clause-reported g c =
    let sorted = c.sort_by_key.new.self.items in
    let start = λ (r : Claim). r.start in (
      shared_after c.args.rule [] sorted,
      record {
        sorted = sorted;
        by_start = record {
          same = c.sort_by_key.ensures.permutation;
          ordered = c.in_ok-sort_by_key.ensures.sorted start (answers_always _ _ _ (λ f a r g h. search rules));
          stable = c.sort_by_key.ensures.stable start (answers_always _ _ _ (λ f a r g h. search rules));
        };
        each = refl;
      },
      c.in_ok-report_shared.ensures.reported ∙ ap (λ rs. c.args.faults.now.items ++ shared_after c.args.rule [] rs) c.as_slice.ensures.value,
    )
