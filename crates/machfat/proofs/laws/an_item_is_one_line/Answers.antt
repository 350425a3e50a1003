use Rattle.machfat.proofs.ItemLines.{one_image_line, one_member_line, one_record_line, one_symbol_line}
use Rattle.machfat.proofs.laws.an_item_is_one_line.Goals as goal

pub returns-clause-records : goal.returns-clause-records
returns-clause-records c = one_record_line

pub returns-clause-images : goal.returns-clause-images
returns-clause-images c = one_image_line

pub returns-clause-members : goal.returns-clause-members
returns-clause-members c = one_member_line

pub returns-clause-symbols : goal.returns-clause-symbols
returns-clause-symbols c = one_symbol_line
