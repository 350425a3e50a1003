use Rattle.std.proofs.Common.{ap}
use Rattle.std.specs.Prelude.{Err}
use Rattle.mach_base.proofs.Faults.{ErrorMeets-reported}
use Rattle.mach_base.specs.Fault.{fault_of}
use Rattle.mach_base.specs.Items.{read_as}
use Rattle.goblin_mach.specs.Items.{content_view}
use Rattle.goblin_mach.specs.ItemsLeft.{input_item_read}
use Rattle.machinfo.proofs.RawBytes.{raw_in}
use Rattle.machinfo.specs.RawBytes.{ContentHasRaw, ItemHasRaw, raw_of_content, raw_unread}
use Rattle.machinfo.proofs.raw.held_in.Goals as goal

pub returns-in-Ok : goal.returns-in-Ok
returns-in-Ok g c =
    let x = input_item_read c.args.item in
    let content = content_view c.in-Ok.content in
    raw_in (ContentHasRaw c.args.cpu x.place.cpu c.args.name.now content) (ItemHasRaw c.args.cpu c.args.name.now x) c.held_in_content.result
    (λ there has. raw_of_content content there (ap (read_as content_view) c.in-Ok.is) has) c.held_in_content.ensures

pub returns-in-Err : goal.returns-in-Err
returns-in-Err g c =
    ErrorMeets-reported (λ f. ItemHasRaw c.args.cpu c.args.name.now (input_item_read c.args.item) (Err f)) c.in-Err.error
    (raw_unread (fault_of c.in-Err.error) (ap (read_as content_view) c.in-Err.is))
