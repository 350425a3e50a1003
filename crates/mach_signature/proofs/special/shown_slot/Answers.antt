use Rattle.std.proofs.Common.{◌∙◌, ℕ, List, Option, Result, ap}
use Rattle.mach_base.specs.Fault.{Fault}
use Rattle.mach_base.specs.Items.{read_as}
use Rattle.mach_base.proofs.ItemLists.{read_as-Reads}
use Rattle.mach_signature.specs.DirectoryViews.{directory_view, slot_read}
use Rattle.mach_signature.specs.FaultViews.{signed_view}
use Rattle.mach_signature.specs.SpecialFaults.{special_fault}
use Rattle.mach_signature.specs.declared.fault.SpecialFault.{SpecialFault}
use Rattle.mach_signature.specs.Special.{if_shown, shown_if_any}
use Rattle.mach_signature.proofs.special.shown_slot.Goals as goal

pub returns : goal.returns
returns c =
    let x = signed_view c.args.signed.now in
    let d = directory_view c.args.directory.now in
    let k = c.args.number in
    let hash = c.in_ok-hash.hash.now in
    c.if_shown.ensures
    ∙ ap (λ (f : Option SpecialFault). if_shown k hash f (read_as slot_read c.component-there.result)) c.special_fault-fault.ensures
    ∙ ap (λ (there : Result (Option (List ℕ)) Fault). if_shown k hash (special_fault d x.signature x.plist k) there)
    (read_as-Reads slot_read _ _ c.component-there.ensures)
    ∙ ap (shown_if_any x d k) c.in_ok-hash.ensures
