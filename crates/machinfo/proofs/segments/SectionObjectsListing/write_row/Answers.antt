use Rattle.machinfo.proofs.segments.SectionObjectsListing.write_row.Goals as goal

pub returns : goal.returns
returns g c = rw (← c.name_in_field.ensures) c.write.ensures.bytes
