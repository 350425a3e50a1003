use Rattle.std.proofs.Common.{◌≡◌, length}
use Rattle.mach_cli.specs.PartsOf.{parts_left}
use Rattle.mach_cli.specs.Selected.{selected_parts_left}
use Rattle.mach_cli.proofs.parts.selection.SelectedParts.next_selected.Given as goal

abbrev pub invariant-parts : goal.invariant-parts
invariant-parts l =
    (selected_parts_left l.initial.self ≡ selected_parts_left l.self) × (l.self.room ≡ l.initial.self.room) × (l.self.cpu ≡ l.initial.self.cpu)

abbrev pub decreases-parts : goal.decreases-parts
decreases-parts l = length (parts_left l.self.parts)
