use Rattle.std.proofs.Common.{ap, sym, ◌∙◌}
use Rattle.mach_base.specs.Fault.{fault_of}
use Rattle.mach_base.proofs.Faults.{FailsAs-read}
use Rattle.goblin_mach.specs.FatFile.{file_view, arch_table_in, archs_left_in, archs_in}
use Rattle.mach_base.specs.Items.{all_read}
use Rattle.goblin_mach.proofs.Exits.{exit_gives}
use Rattle.goblin_mach.proofs.FatRecords.{arches-first, arches-next, arches-whole, arches-refused}
use Rattle.goblin_mach.proofs.fat_file.table.FatTable.arches.Goals as goal

pub arches-init : goal.arches-init
arches-init g c =
    let form = g.R.ArchRecord.arch_form in
    let all = ap (archs_left_in form) c.into_iter-arch-iterator.ensures.into_iter_gives ∙ c.iter_arches-arch-items.ensures.items in
    arches-first form (file_view c.args.self.now) c.new-arches.result.items (archs_left_in form c.into_iter-arch-iterator.result)
    c.new-arches.ensures.items all

pub returns-in_err-arch : goal.returns-in_err-arch
returns-in_err-arch g c =
    let form = g.R.ArchRecord.arch_form in
    let file = file_view c.args.self.now in
    let e = c.in_err-arch.field-0.0 in
    let bad = rw c.in_err-arch.was at c.in-Some.ensures.steps in
    let fit = sym c.has_room_for.ensures ∙ c.if-not-has_room_for.false in
    let none = arches-refused form file c.arches.arches.items (archs_left_in form c.arches.arch-iterator) fit c.arches.invariant (fault_of e) _ bad in
    exit_gives _ _ e c.from_residual-in_err-arch.ensures.1 (arch_table_in form file) (FailsAs-read e (arch_table_in form file) none)

pub arches-preserved : goal.arches-preserved
arches-preserved g c =
    let form = g.R.ArchRecord.arch_form in
    arches-next (all_read (archs_in form (file_view c.args.self.now))) c.arches.arches.items c.push.new.self.items c.in_ok-arch.field-0
    (archs_left_in form c.arches.arch-iterator) _ c.arches.invariant (rw c.in_ok-arch.was at c.in-Some.ensures.steps) c.in_ok-push.ensures.items

pub returns : goal.returns
returns g c =
    let form = g.R.ArchRecord.arch_form in
    let fit = sym c.has_room_for.ensures ∙ c.if-not-has_room_for.false in
    arches-whole form (file_view c.args.self.now) c.arches.arches.items (archs_left_in form c.arches.arch-iterator) fit c.arches.invariant
    c.in-None.ensures.steps.0
