use Rattle.std.proofs.Common.{◌++◌, [], ℕ, List, Result, take, subst}
use Rattle.std.specs.Io.KnownBytes.{Appends}
use Rattle.std.specs.List.{flat_map}
use Rattle.std.specs.Prelude.{codes}
use Rattle.mach_base.specs.Fault.{Fault}
use Rattle.mach_cli.specs.Lines.{WritesLines}
use Rattle.mach_cli.specs.Listings.{text_read, reported_line}
use Rattle.mach_signature.specs.DirectoryViews.{directory_view}
use Rattle.mach_signature.specs.FaultViews.{signed_view}
use Rattle.mach_signature.specs.Special.{SlotView}
use Rattle.machsign.specs.Special.{slots_in, slot_reported}
use Rattle.machsign.specs.declared.form.Form.TheVariants.{Lines}
use Rattle.machsign.proofs.Rows.{rows_lines}
use Rattle.machsign.proofs.Slots.{all_slots, slot_rows_are}
use Rattle.machsign.proofs.block.print_special_slots.Goals as goal

pub returns : goal.returns
returns g c =
    let x = signed_view c.args.signed.now in
    let d = directory_view c.args.directory.now in
    let old = g.O.Write.contents c.args.out.now in
    let new = g.O.Write.contents c.print_rows.new.out in
    let slots = slots_in Lines x d in
    let lines = rows_lines (slot_reported Lines) [] 11 slots old new
    (subst (λ (rows : List (Result (List ℕ) Fault)). WritesLines text_read (reported_line []) (take 11 rows) old new)
    (slot_rows_are c.of-slots.result Lines slots c.of-slots.ensures.slots c.of-slots.ensures.form) c.in_ok-print_rows.ensures.lines) in
    subst (λ (shown : List SlotView). Appends old new (flat_map (λ s. slot_reported Lines s ++ codes "\n") shown)) (all_slots Lines x d) lines
