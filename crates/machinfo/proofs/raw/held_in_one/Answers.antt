use Rattle.goblin_mach.specs.ItemsLeft.{input_item_read}
use Rattle.mach_cli.specs.PartsOf.{parts_left}
use Rattle.machinfo.proofs.RawBytes.{raw_in}
use Rattle.machinfo.specs.RawBytes.{ItemHasRaw, ItemsHaveRaw, raw_of_one, raw_of_others}
use Rattle.machinfo.proofs.raw.held_in_one.Goals as goal

pub returns-in-Some : goal.returns-in-Some
returns-in-Some g c =
    let x = input_item_read c.in-Some.item in
    raw_in (ItemHasRaw c.args.cpu c.args.name.now x) (ItemsHaveRaw c.args.cpu c.args.name.now (parts_left c.args.items)) c.held_in.result
    (λ there has. raw_of_one x there c.in-Some.ensures.one has) c.held_in.ensures

pub returns-in-None : goal.returns-in-None
returns-in-None g c = raw_of_others c.in-None.ensures.other
