use Rattle.goblin_mach.proofs.macho.MachO.find_export.Goals as goal

pub returns-in-Some-clause-occurs : goal.returns-in-Some-clause-occurs
returns-in-Some-clause-occurs g c =
    rw c.in-Some.is (rw c.as_slice.ensures.value at c.find.ensures.occurs)

pub returns-in-Some-clause-listed : goal.returns-in-Some-clause-listed
returns-in-Some-clause-listed g c =
    λ list lists. c.find.ensures.listed list (rw c.as_slice.ensures.value (rw c.in-Some.is at lists))

pub returns-in-Some-clause-only : goal.returns-in-Some-clause-only
returns-in-Some-clause-only g c =
    λ list lists. c.find.ensures.only list (rw c.as_slice.ensures.value (rw c.in-Some.is at lists))

pub returns-in-Some-clause-refused : goal.returns-in-Some-clause-refused
returns-in-Some-clause-refused g c =
    rw c.in-Some.is (rw c.as_slice.ensures.value at c.find.ensures.refused)

pub returns-in-Some-clause-on_way : goal.returns-in-Some-clause-on_way
returns-in-Some-clause-on_way g c =
    rw c.in-Some.is (rw c.as_slice.ensures.value at c.find.ensures.on_way)
