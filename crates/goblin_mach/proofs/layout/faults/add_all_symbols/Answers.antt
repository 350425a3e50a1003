use Rattle.std.proofs.Common.{◌++◌, ap, ◌∙◌}
use Rattle.mach_layout.specs.DataInCode.{data_faults}
use Rattle.mach_layout.specs.Fixups.{fixup_faults}
use Rattle.mach_layout.specs.Laid.{laid_of}
use Rattle.goblin_mach.proofs.layout.faults.add_all_symbols.Goals as goal

pub returns-clause-reported : goal.returns-clause-reported
returns-clause-reported g c =
    let laid = laid_of c.args.layout.now in
    let lists = c.in_ok-list_faults.ensures.reported in
    record {
      of_lists = lists.0;
      are_of_lists = lists.1;
      joined =
          c.in_ok-data_faults.ensures.reported
          ∙ ap (λ fs. fs ++ data_faults laid) (c.in_ok-fixup_faults.ensures.reported
          ∙ ap (λ fs. fs ++ fixup_faults laid) (lists.2
          ∙ ap (λ fs. fs ++ lists.0) c.in_ok-add_symbols.ensures.reported));
    }
