use Rattle.std.specs.Prelude.{Err}
use Rattle.mach_base.proofs.Faults.{ErrorMeets-in}
use Rattle.goblin_mach.specs.Image.{ImageFault}
use Rattle.goblin_mach.specs.Items.{content_bytes, content_view}
use Rattle.machinfo.proofs.RawBytes.{raw_of_opened}
use Rattle.machinfo.specs.RawBytes.{ContentHasRaw, raw_of_no_image}
use Rattle.machinfo.proofs.raw.held_in_content.Goals as goal

pub returns-in-Ok : goal.returns-in-Ok
returns-in-Ok g c =
    raw_of_opened c.in-Ok.image (content_view c.args.content) c.args.cpu c.args.entry c.args.name.now c.in-Ok.ensures.opened c.held_if.result c.held_if.ensures

pub returns-in-Err : goal.returns-in-Err
returns-in-Err g c =
    let content = content_view c.args.content in
    ErrorMeets-in (ImageFault (content_bytes content) 0) (λ f. ContentHasRaw c.args.cpu c.args.entry c.args.name.now content (Err f)) c.in-Err.error
    raw_of_no_image c.in-Err.ensures.refused
