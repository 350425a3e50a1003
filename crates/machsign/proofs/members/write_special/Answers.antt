use Rattle.std.proofs.Common.{◌++◌, ◌∙◌, ℕ, List, Result, map, ap, subst}
use Rattle.std.proofs.lemmas.Result.{on_ok_weaker}
use Rattle.std.specs.Io.KnownBytes.{Appends}
use Rattle.std.specs.Prelude.{codes}
use Rattle.mach_base.proofs.Written.{Appends-both}
use Rattle.mach_base.specs.Fault.{Fault}
use Rattle.mach_cli.specs.JsonArrays.{with_commas, IsArrayOf}
use Rattle.mach_signature.specs.DirectoryViews.{directory_view}
use Rattle.mach_signature.specs.FaultViews.{signed_view}
use Rattle.mach_signature.specs.Special.{SlotView}
use Rattle.machsign.specs.Special.{slots_in, slot_reported, slots_array}
use Rattle.machsign.specs.declared.form.Form.TheVariants.{Objects}
use Rattle.std.proofs.Common.{take}
use Rattle.machsign.proofs.Rows.{rows_array}
use Rattle.machsign.proofs.Slots.{all_slots, slot_rows_are}
use Rattle.machsign.proofs.members.write_special.Goals as goal

pub returns : goal.returns
returns g c =
    let x = signed_view c.args.signed.now in
    let d = directory_view c.args.directory.now in
    let slots = slots_in Objects x d in
    let array = c.in_ok-print_array.ensures in
    let is = subst (λ (rows : List (Result (List ℕ) Fault)). IsArrayOf (take 11 rows) array.text)
    (slot_rows_are c.of-slots.result Objects slots c.of-slots.ensures.slots c.of-slots.ensures.form) array.array in
    let text = rows_array (slot_reported Objects) 11 slots array.text is
    ∙ ap (λ (shown : List SlotView). codes "[" ++ (with_commas (map (slot_reported Objects) shown) ++ codes "]")) (all_slots Objects x d) in
    on_ok_weaker c.write.result
    (λ last. Appends-both _ _ _ (slots_array x d) _
    (subst (λ (t : List ℕ). Appends (g.O.Write.contents c.args.out.now) (g.O.Write.contents c.print_array.new.out) t) text array.written) last)
    c.write.ensures.bytes
