use Rattle.std.proofs.Common.{◌≡◌, ◌≤◌, ◌++◌, List, Result, Ok, length, map}
use Rattle.mach_base.specs.Fault.{Fault}
use Rattle.mach_parts.specs.Bindings.{Binding}
use Rattle.goblin_mach.specs.BindingsLeft.{bindings_left}
use Rattle.mach_resolve.specs.Following.{Met, IsAfterAll}
use Rattle.mach_resolve.specs.Answers.{AreAnswers}
use Rattle.mach_resolve.specs.Kept.{KeepsAnswers}
use Rattle.mach_resolve.specs.Resolved.{HoldsItems}
use Rattle.mach_resolve.specs.ResolveViews.{input_views, program_view, answer_view}
use Rattle.mach_resolve.proofs.resolved.answer_all.Given as goal

abbrev pub invariant-bindings : goal.invariant-bindings
invariant-bindings g l =
    (items : List (Result Binding Fault)) × HoldsItems l.image items
    × (bindings : List Binding) × (items ≡ map (λ b. Ok b) bindings ++ bindings_left l.item-iterator)
    × ((met : Met) → IsAfterAll (input_views l.files) met → met.places ≡ l.all
    → AreAnswers (input_views l.files) (program_view l.program) bindings (map answer_view l.answers.items) × KeepsAnswers (input_views l.files) l.kept)
    × (length l.answers.items ≡ length bindings) × (length bindings ≤ l.limit)
