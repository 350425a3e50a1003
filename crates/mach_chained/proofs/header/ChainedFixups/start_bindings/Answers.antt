use Rattle.std.proofs.Common.{List, Result, ap, ◌∙◌}
use Rattle.mach_base.specs.Fault.{Fault}
use Rattle.mach_chained.specs.Fixups.{FixupInput, Fixup}
use Rattle.mach_chained.specs.Bindings.{bindings_of}
use Rattle.mach_chained.specs.FixupsLeft.{fixups_left}
use Rattle.mach_chained.specs.WalkViews.{fixup_input_in}
use Rattle.mach_base.specs.Text.{texts}
use Rattle.mach_chained.specs.BindingViews.{chained_bindings_left, pointers_left, fixup_count}
use Rattle.mach_chained.proofs.BindingsLeft.{fixups_counted}
use Rattle.mach_chained.proofs.header.ChainedFixups.start_bindings.Goals as goal

pub returns : goal.returns
unfolding chained_bindings_left pointers_left
returns c =
    let items = c.start-fixups.ensures.items in
    let left = fixups_left c.start-fixups.result in
    let libs = texts c.args.libs.now in
    let x = fixup_input_in c.args.self.now c.args.segments.now c.args.base in (
      items.0,
      items.1,
      items.2,
      ap (λ (y : FixupInput). bindings_of y libs left) c.start-fixups.ensures.source ∙ ap (λ (m : List (Result Fixup Fault)). bindings_of x libs m) items.3,
      ap (λ (m : List (Result Fixup Fault)). fixup_count m) items.3 ∙ fixups_counted items.0 items.1,
    )
