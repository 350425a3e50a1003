use Rattle.std.proofs.Common.{◌≡◌, ◌∙◌, ◌∷◌, Option, Some, None, Err, sym, ap}
use Rattle.mach_base.specs.Fault.{fault_of}
use Rattle.mach_base.specs.declared.error.Error.{Error}
use Rattle.mach_chained.specs.Fixups.{Fixup}
use Rattle.goblin_mach.specs.FixupsLeft.{reported_first}
use Rattle.goblin_mach_c.specs.FixupsAfter.{fixup_rows_left}
use Rattle.goblin_mach_c.proofs.fixups.FixupRowsItemRows.next.Goals as goal

pub returns-in_ok-why-in-Unread-clause-says : goal.returns-in_ok-why-in-Unread-clause-says
returns-in_ok-why-in-Unread-clause-says c = λ x over.
    let why = c.in_ok-why-in-Unread.why in
    let reported : c.in-Unread.reported ≡ Some why = cc (c.in_ok-why-in-Unread.ensures.value) in
    let after : c.take.new.self ≡ None = c.in_ok-why-in-Unread.ensures.after in (
      Err (fault_of why),
      ap fixup_rows_left c.in-Unread.is ∙ ap (λ (o : Option Error). reported_first {A = Fixup} o) reported
          ∙ ap (λ (o : Option Error). Err (fault_of why) ∷ reported_first {A = Fixup} o) (sym after),
      c.refused_row.ensures,
    )
