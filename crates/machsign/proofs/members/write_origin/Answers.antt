use Rattle.machsign.proofs.members.write_origin.Goals as goal

pub returns : goal.returns
returns g c = rw (c.is_ad_hoc-ad_hoc.ensures, c.is_linker_signed-linker.ensures) at c.write.ensures.bytes
