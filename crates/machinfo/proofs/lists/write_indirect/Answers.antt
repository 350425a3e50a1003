use Rattle.machinfo.proofs.lists.write_indirect.Goals as goal

pub returns-in-Absolute : goal.returns-in-Absolute
returns-in-Absolute g c = rw c.in-Absolute.is (rw c.new-in-Absolute.ensures at c.write-in-Absolute.ensures)

pub returns-in-LocalAbsolute : goal.returns-in-LocalAbsolute
returns-in-LocalAbsolute g c = rw c.in-LocalAbsolute.is (rw c.new-in-LocalAbsolute.ensures at c.write-in-LocalAbsolute.ensures)
