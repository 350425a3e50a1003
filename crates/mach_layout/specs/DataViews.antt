-- The checks of data-in-code entries, as contracts see them.
use Rattle.std.specs.Prelude.{ℕ}
use Rattle.mach_layout.specs.DataInCode.{data_entry_owner, data_sees, entry_in}
use Rattle.mach_layout.specs.FixupViews.{data_view}
use Rattle.mach_layout.specs.Rules.{sees_there}
use Rattle.mach_layout.specs.declared.data.DataJudge.{DataJudge}
use Rattle.mach_layout.specs.declared.fault.Owner.{Owner}
use Rattle.mach_layout.specs.declared.fault.Rule.{Rule}
use Rattle.mach_layout.specs.declared.rules.RuleOutcome.{RuleOutcome}

-- entry k
abbrev pub data_judge_owner : DataJudge → Rule → ℕ → Owner
data_judge_owner j rule = data_entry_owner (data_view j.table)

abbrev pub data_judged : DataJudge → Rule → ℕ → RuleOutcome
data_judged j rule k = sees_there (entry_in (data_view j.table) k) (data_sees (data_view j.table) j.base j.span rule k)
