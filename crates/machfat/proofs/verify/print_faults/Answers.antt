use Rattle.std.proofs.Common.{◌++◌, ◌∙◌, ◌+◌, [], drop, get_or, refl, sym, ap, subst}
use Rattle.std.proofs.lemmas.List.{append-nil, append_assoc, at_drop_more, drop_all}
use Rattle.std.specs.Io.KnownBytes.{Appends}
use Rattle.machfat.specs.Faults.{fault_lines, table_fault_line}
use Rattle.mach_base.proofs.Written.{Appends-none, Appends-both}
use Rattle.machfat.proofs.verify.print_faults.Goals as goal

pub faults-init : goal.faults-init
faults-init g c = ([], Appends-none (g.O.Write.contents c.args.out.now), refl)

pub faults-preserved : goal.faults-preserved
faults-preserved g c =
    let before = c.faults.invariant in
    let faults = c.args.faults.now in
    let i = c.faults.fault-index in
    let line = table_fault_line (get_or faults i _) in (
      before.0 ++ line,
      Appends-both _ _ _ before.0 line before.1 c.in_ok-print_fault.ensures,
      append_assoc before.0 line (fault_lines (drop (i + 1) faults))
          ∙ ap (λ rest. before.0 ++ rest) (sym (at_drop_more (λ left. fault_lines left) faults i _ c.faults-test.true))
          ∙ before.2,
    )

pub returns : goal.returns
returns g c =
    let done = c.faults.invariant in
    let none = drop_all c.faults.fault-index c.args.faults.now c.faults-test.false in
    subst (λ text. Appends (g.O.Write.contents c.args.out.now) (g.O.Write.contents c.faults.out) text)
    (sym (append-nil done.0) ∙ ap (λ left. done.0 ++ fault_lines left) (sym none) ∙ done.2)
    done.1
