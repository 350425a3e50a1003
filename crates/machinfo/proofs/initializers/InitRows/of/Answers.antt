use Rattle.std.proofs.Common.{◌≡◌, ◌∙◌, ◌++◌, Option, Some, None, Result, ap, sym}
use Rattle.std.specs.Iterator.{YieldsFirstBy}
use Rattle.mach_base.specs.Items.{read_as}
use Rattle.mach_base.specs.declared.error.Error.{Error}
use Rattle.goblin_mach.specs.Initializers.{initializer_read, initializers_left}
use Rattle.goblin_mach.specs.declared.initializers.Initializer.{Initializer}
use Rattle.goblin_mach.specs.declared.initializers.InitializerIterator.{InitializerIterator}
use Rattle.machinfo.specs.Initializers.{first_init, listed_or_fault}
use Rattle.machinfo.proofs.initializers.InitRows.of.Goals as goal

-- the first and those after it are all
first_and_rest : (first : Option (Result Initializer Error)) (all rest : InitializerIterator)
    → YieldsFirstBy initializer_read initializers_left all first rest → first_init first ++ initializers_left rest ≡ initializers_left all
first_and_rest None all rest none = none.1 ∙ sym none.0
first_and_rest (Some item) all rest first = sym first

pub returns-in-Ok-clause-listed : goal.returns-in-Ok-clause-listed
returns-in-Ok-clause-listed g c = (
  _,
  c.initializers.ensures,
  first_and_rest c.next.result c.in-Ok.items c.next.new.self c.next.ensures.steps
      ∙ sym (ap (λ r. listed_or_fault (read_as initializers_left r)) c.in-Ok.is),
)
