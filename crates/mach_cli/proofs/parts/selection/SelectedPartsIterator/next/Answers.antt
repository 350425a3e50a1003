use Rattle.std.proofs.Common.{arith}
use Rattle.goblin_mach.specs.ItemsLeft.{input_item_read}
use Rattle.mach_cli.specs.Selected.{selected_parts_left}
use Rattle.mach_cli.proofs.Missed.{taken_first}
use Rattle.mach_cli.proofs.parts.selection.SelectedPartsIterator.next.Goals as goal

pub returns-clause-steps : goal.returns-clause-steps
returns-clause-steps c =
    taken_first c.args.self.now.room c.in_ok-room.room (selected_parts_left c.args.self.now) (input_item_read c.in_ok-part.part)
    (selected_parts_left c.next_selected.new.self) c.in_ok-part.ensures.given (omega (arith, c.in_ok-room.ensures.0, c.in_ok-room.ensures.1))
