use Rattle.machfat.proofs.new_file.is_same_file.Goals as goal

pub returns : goal.returns
returns g c = (c.node_of-here.result, c.node_of-there.result, c.is_one_file.ensures)
