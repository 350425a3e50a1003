-- The items of commands, command by command.
use Rattle.std.proofs.Common.{◌≡◌, ℕ, ◌+◌, ◌<◌, ◌≤◌, List, [], length, map, drop, get_or, Result}
use Rattle.std.proofs.lemmas.List.{at_drop_more, at_drop_all}
use Rattle.mach_base.specs.Fault.{Fault}
use Rattle.mach_load.specs.Command.{Command}
use Rattle.mach_load.specs.Variants.{command_of}
use Rattle.mach_load.specs.declared.load_command.LoadCommand.{LoadCommand}
use Rattle.mach_load.specs.CommandLists.{followed_by, listed_by}

module _ {V : Type 0} (lists : ℕ → Command → List (Result V Fault)) (cs : List LoadCommand) where
  -- the items of the commands from a number on
  abbrev pub lists_from : ℕ → List (Result V Fault)
  lists_from i = listed_by lists i (map command_of (drop i cs))

  pub lists_here : (i : ℕ) (d : LoadCommand) → i < length cs → lists_from i ≡ followed_by (lists i (command_of (get_or cs i d))) (lists_from (i + 1))
  lists_here i d inside = at_drop_more (λ (ds : List LoadCommand). listed_by lists i (map command_of ds)) cs i d inside

  pub lists_end : (i : ℕ) → length cs ≤ i → lists_from i ≡ []
  lists_end i past = at_drop_all (λ (ds : List LoadCommand). listed_by lists i (map command_of ds)) cs i past
