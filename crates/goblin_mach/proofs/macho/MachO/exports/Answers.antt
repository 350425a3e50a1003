use Rattle.goblin_mach.proofs.macho.MachO.exports.Goals as goal

pub returns-in-Some-clause-listed : goal.returns-in-Some-clause-listed
returns-in-Some-clause-listed g c =
    rw c.in-Some.is (rw c.as_slice.ensures.value at c.exports.ensures.listed)

pub returns-in-Some-clause-only : goal.returns-in-Some-clause-only
returns-in-Some-clause-only g c =
    λ list lists. c.exports.ensures.only list (rw c.as_slice.ensures.value (rw c.in-Some.is at lists))

pub returns-in-Some-clause-refused : goal.returns-in-Some-clause-refused
returns-in-Some-clause-refused g c =
    rw c.in-Some.is (rw c.as_slice.ensures.value at c.exports.ensures.refused)

pub returns-in-Some-clause-few_exports : goal.returns-in-Some-clause-few_exports
returns-in-Some-clause-few_exports g c = rw c.in-Some.is c.exports.ensures.few_exports
