use Rattle.machsign.proofs.Feeds.{kind_is_line, name_is_line, slot_is_line, checked_is_line, unchecked_is_line, blob_is_line}
use Rattle.machsign.proofs.laws.lines_are_one_each.Goals as goal

pub returns-clause-kinds : goal.returns-clause-kinds
returns-clause-kinds c = kind_is_line

pub returns-clause-names : goal.returns-clause-names
returns-clause-names c = name_is_line

pub returns-clause-slots : goal.returns-clause-slots
returns-clause-slots c = slot_is_line

pub returns-clause-checked : goal.returns-clause-checked
returns-clause-checked c = checked_is_line

pub returns-clause-unchecked : goal.returns-clause-unchecked
returns-clause-unchecked c = unchecked_is_line

pub returns-clause-blobs : goal.returns-clause-blobs
returns-clause-blobs c = λ b. blob_is_line b.slot b.len
