use Rattle.goblin_mach.proofs.macho.MachO.imports.Goals as goal

pub returns-in-Some-clause-listed : goal.returns-in-Some-clause-listed
returns-in-Some-clause-listed g c =
    rw c.in-Some.is (rw (c.as_slice.ensures.value, c.as_slice-in-Some.ensures) at c.imports.ensures.listed)

pub returns-in-Some-clause-only : goal.returns-in-Some-clause-only
returns-in-Some-clause-only g c =
    λ list lists. c.imports.ensures.only list (rw (c.as_slice.ensures.value, c.as_slice-in-Some.ensures) (rw c.in-Some.is at lists))

pub returns-in-Some-clause-refused : goal.returns-in-Some-clause-refused
returns-in-Some-clause-refused g c =
    rw c.in-Some.is (rw (c.as_slice.ensures.value, c.as_slice-in-Some.ensures) at c.imports.ensures.refused)
