-- The tools of commands, one by one.
use Rattle.std.proofs.Common.{◌≡◌, ℕ, ◌+◌, ◌-◌, ◌<◌, ◌≤◌, List, [], ◌∷◌, length, map, Result, Ok, Err, ap, ◌∙◌, arith}
use Rattle.mach_base.specs.declared.context.Endian.{Endian}
use Rattle.mach_base.specs.Fault.{Fault}
use Rattle.mach_base.proofs.ItemLists.{items_from-first}
use Rattle.mach_records.specs.declared.versions.BuildToolVersion.{BuildToolVersion}
use Rattle.mach_load.specs.declared.load_command.LoadCommand.{LoadCommand}
use Rattle.mach_load.specs.CommandLists.{with_number, followed_by}
use Rattle.mach_load.specs.BuildTools.{ToolTable, tool_at, numbered_tools, tools_of}
use Rattle.mach_load.proofs.ListsRead.{lists_from, lists_end}

module _ (le : Endian) (bytes : List ℕ) (cs : List LoadCommand) where
  -- what is left, if the tools of command `number` from `index` on remain, and then the commands from `next` on
  abbrev pub tools_from : (number next : ℕ) → ToolTable → (index : ℕ) → List (Result (ℕ × BuildToolVersion) Fault)
  tools_from number next t index =
      followed_by (numbered_tools le bytes number t index (t.count - index)) (lists_from (tools_of le bytes) cs next)

  no_tools : (number next : ℕ) (t : ToolTable) (index : ℕ) → t.count ≤ index → tools_from number next t index ≡ lists_from (tools_of le bytes) cs next
  no_tools number next t index none =
      let zero_left : t.count - index ≡ 0 = omega (arith, none) in
      ap (λ (n : ℕ). followed_by (numbered_tools le bytes number t index n) (lists_from (tools_of le bytes) cs next)) zero_left

  pub tools_end : (number next : ℕ) (t : ToolTable) (index : ℕ) → t.count ≤ index → length cs ≤ next → tools_from number next t index ≡ []
  tools_end number next t index none past = no_tools number next t index none ∙ lists_end (tools_of le bytes) cs next past

  one_tool : (number next : ℕ) (t : ToolTable) (index : ℕ) → index < t.count
      → tools_from number next t index
      ≡ followed_by (with_number number (tool_at le bytes t index) ∷ numbered_tools le bytes number t (index + 1) (t.count - (index + 1)))
      (lists_from (tools_of le bytes) cs next)
  one_tool number next t index some =
      ap (λ (items : List (Result BuildToolVersion Fault)). followed_by (map (with_number number) items) (lists_from (tools_of le bytes) cs next))
      (items_from-first (tool_at le bytes t) index t.count some)

  pub tool_first : (number next : ℕ) (t : ToolTable) (index : ℕ) (tool : BuildToolVersion) → index < t.count → tool_at le bytes t index ≡ Ok tool
      → tools_from number next t index ≡ Ok (number, tool) ∷ tools_from number next t (index + 1)
  tool_first number next t index tool some is =
      one_tool number next t index some
      ∙ ap (λ (r : Result BuildToolVersion Fault). followed_by (with_number number r
      ∷ numbered_tools le bytes number t (index + 1) (t.count - (index + 1))) (lists_from (tools_of le bytes) cs next)) is

  pub tool_fault : (number next : ℕ) (t : ToolTable) (index : ℕ) (f : Fault) → index < t.count → tool_at le bytes t index ≡ Err f
      → tools_from number next t index ≡ Err f ∷ []
  tool_fault number next t index f some is =
      one_tool number next t index some
      ∙ ap (λ (r : Result BuildToolVersion Fault). followed_by (with_number number r
      ∷ numbered_tools le bytes number t (index + 1) (t.count - (index + 1))) (lists_from (tools_of le bytes) cs next)) is
