use Rattle.std.proofs.Common.{◌∙◌, ◌+◌, ap, map, subst, sym, take}
use Rattle.mach_load.specs.Variants.{command_of}
use Rattle.mach_load.specs.FunctionStarts.{starts_after}
use Rattle.goblin_mach.specs.Fixups.{base_view}
use Rattle.goblin_mach.specs.OpenImage.{bytes_view, commands_view}
use Rattle.goblin_mach.specs.Tables.{AreStartsAt, starts_place_in}
use Rattle.goblin_mach_c.specs.Stage.{stage_of}
use Rattle.goblin_mach_c.specs.StartsAfter.{AreStartsAtStage, start_rows_left}
use Rattle.goblin_mach_c.proofs.StartPlaces.{all_from_first, none_at_stage}
use Rattle.goblin_mach_c.proofs.starts.StartRows.following.Goals as goal

pub returns-in_default-clause-items : goal.returns-in_default-clause-items
returns-in_default-clause-items c =
    let m = c.args.image.now in
    let at = c.args.cursor.now in
    let place = c.in_default.ensures ∙ ap (λ l. starts_place_in (map command_of l)) c.as_slice.ensures.value in
    subst (λ range. AreStartsAtStage (stage_of at.stage) at (bytes_view m) range (base_view m) (start_rows_left c.none.result)) place
    (none_at_stage (stage_of at.stage) at (bytes_view m) (base_view m) (start_rows_left c.none.result) c.none.ensures.left)

pub returns-in-0-clause-items : goal.returns-in-0-clause-items
returns-in-0-clause-items c =
    let m = c.args.image.now in
    let at = c.args.cursor.now in
    let off = c.in-Some.command.dataoff in
    let size = c.in-Some.command.datasize in
    let items = start_rows_left c.placed.result in
    let place = c.in-Some.ensures ∙ ap (λ l. starts_place_in (map command_of l)) c.as_slice.ensures.value in
    let left = c.placed.ensures.left ∙ ap (λ b. starts_after (take (off + size) b) (off + size) off c.base.result) c.bytes-bytes.ensures
    ∙ ap (starts_after (take (off + size) (bytes_view m)) (off + size) off) c.base.ensures in
    subst (λ n. AreStartsAtStage (stage_of n) at (bytes_view m) (starts_place_in (commands_view m)) (base_view m) items) (sym c.in-0.is)
    (subst (λ range. AreStartsAt (bytes_view m) range (base_view m) items) place (all_from_first (bytes_view m) off size (base_view m) items left))
