use Rattle.std.proofs.Common.{◌∙◌, sym, ap}
use Rattle.std.proofs.lemmas.List.{take_all}
use Rattle.std.proofs.lemmas.List.Folds.{list_any_at}
use Rattle.std.specs.List.{list_any}
use Rattle.mach_cli.specs.Cpus.{is_selected}
use Rattle.mach_cli.proofs.Asking.{none_more}
use Rattle.mach_cli.proofs.cpu.Cpu.has_entry.Goals as goal

pub returns-then-takes_entry : goal.returns-then-takes_entry
returns-then-takes_entry c =
    sym (list_any_at (is_selected c.args.self.now) c.args.archs.now c.archs.arch-index _ c.archs-test.true (sym c.takes_entry.ensures ∙ c.if-takes_entry.true))

pub archs-preserved : goal.archs-preserved
archs-preserved c =
    none_more (is_selected c.args.self.now) c.args.archs.now c.archs.arch-index _ c.archs-test.true c.archs.invariant
    (sym c.takes_entry.ensures ∙ c.if-takes_entry.false)

pub returns : goal.returns
returns c =
    sym c.archs.invariant
    ∙ ap (list_any (is_selected c.args.self.now)) (take_all c.archs.arch-index c.args.archs.now c.archs-test.false)
