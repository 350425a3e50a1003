use Rattle.mach_audit.proofs.lists.add_relocations_by.Goals as goal

pub returns : goal.returns
returns g c = record { reported = rw c.in-Ok.is (rw (c.in_bounds.ensures, c.iter_relocations-relocations.ensures) at c.add_list.ensures.reported) }
