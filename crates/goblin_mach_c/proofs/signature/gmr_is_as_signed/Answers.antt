use Rattle.goblin_mach_c.proofs.signature.gmr_is_as_signed.Goals as goal

pub returns-in-Ok-is_as_signed-clause-said : goal.returns-in-Ok-is_as_signed-clause-said
returns-in-Ok-is_as_signed-clause-said c = λ _.
    let is = c.in-Ok-is_as_signed.yes in
    let said = c.as_signed_of_image.ensures.said.lossy c.args.bytes.now c.args.image.now.offset c.in-Ok.ensures.opened in
    record { is = is; says = c.flag.ensures; as_signed = said is c.in-Ok-is_as_signed.ensures }
