use Rattle.std.proofs.Common.{◌≡◌, List, subst}
use Rattle.std.specs.Prelude.{Err}
use Rattle.mach_base.proofs.Faults.{ErrorMeets-in}
use Rattle.goblin_mach.specs.Inputs.{InputFault}
use Rattle.goblin_mach.specs.Items.{ItemView}
use Rattle.mach_cli.specs.PartsOf.{parts_left}
use Rattle.machinfo.proofs.RawBytes.{raw_in}
use Rattle.machinfo.specs.RawBytes.{HasRawBytes, ItemsHaveRaw, raw_of_items, raw_of_no_file}
use Rattle.machinfo.proofs.raw.held_in_file.Goals as goal

pub returns-in_ok-clone-in-Ok : goal.returns-in_ok-clone-in-Ok
returns-in_ok-clone-in-Ok g c =
    let same = c.items_shown-items.ensures (c.images.ensures c.args.bytes.now c.in-Ok.ensures.opened) in
    raw_in (ItemsHaveRaw c.args.cpu c.args.name.now (parts_left c.items_shown-items.result)) (HasRawBytes c.args.cpu c.args.name.now c.args.bytes.now)
    c.held_in_one.result
    (λ there has. raw_of_items there (subst (λ (xs : List ItemView). ItemsHaveRaw c.args.cpu c.args.name.now xs there) same has)) c.held_in_one.ensures

pub returns-in-Err : goal.returns-in-Err
returns-in-Err g c =
    ErrorMeets-in (InputFault c.args.bytes.now) (λ f. HasRawBytes c.args.cpu c.args.name.now c.args.bytes.now (Err f)) c.in-Err.error raw_of_no_file
    c.in-Err.ensures.refused
