-- Lists of branches that all lead nowhere. From the first one on, each place has a number of such branches that certainly
-- follow from there.
use Rattle.std.specs.Prelude.{◌≡◌, ◌<◌, ◌≤◌, ◌+◌, ◌&&◌, length, ℕ, Bool, true, false, List, [], ◌∷◌, Option, Some, None, Result, Ok, Err, nat_le, get_or}
use Rattle.mach_base.specs.Fault.{Fault}
use Rattle.mach_dyld.specs.Trie as trie
use Rattle.mach_base.specs.Leb128.{uleb_at}
use Rattle.mach_base.specs.Sums.{sum_of}
use Rattle.mach_dyld.specs.Nodes.{branches_at, children_at}
use Rattle.mach_dyld.specs.Views.{branches_in, info_in, node_in}
use Rattle.mach_dyld.specs.declared.export_info.ExportInfo.{ExportInfo}
use Rattle.mach_dyld.specs.declared.trie.node.Branches.{Branches}
use Rattle.mach_dyld.specs.declared.trie.walk.Source.{Source}

-- whether each of these branches leads to the end of the trie or past it
abbrev pub lead_nowhere : ℕ → List trie.Branch → Bool
lead_nowhere upto [] = true
lead_nowhere upto (b ∷ bs) = nat_le upto b.start && lead_nowhere upto bs

-- whether a list can be read and all its branches lead nowhere
abbrev pub is_barren : ℕ → Result (List trie.Branch) Fault → Bool
is_barren upto (Ok bs) = lead_nowhere upto bs
is_barren upto (Err f) = false

-- from each place, as many branches can be read as are known there, and all of them lead nowhere
abbrev pub AreBarren : Source → List ℕ → Type 0
AreBarren s known = (place : ℕ) → is_barren s.upto (branches_at s.bytes.now s.from (get_or known place 0) place) ≡ true

-- nothing is known, or the table has a number for each place of the bytes
abbrev pub HaveRoom : Source → List ℕ → Type 0
HaveRoom s known = 0 < length known → length known ≡ length s.bytes.now

-- what was known is still known
abbrev pub AreKept : List ℕ → List ℕ → Type 0
AreKept old new = (place : ℕ) → get_or old place 0 ≤ get_or new place 0

-- the list whose count is at a place is known to lead nowhere
abbrev pub IsKnownBarren : Source → List ℕ → ℕ → Type 0
IsKnownBarren s known place = (count : ℕ) × (first : ℕ) × (uleb_at s.bytes.now place ≡ Ok (count, first)) × (count ≤ get_or known first 0)

-- a branch whose label ends at a place leads nowhere, and the next branch begins here
abbrev pub LeadsNowhere : Source → ℕ → ℕ → Type 0
LeadsNowhere s end after = (offset : ℕ) × (start : ℕ) × (uleb_at s.bytes.now (end + 1) ≡ Ok (offset, after)) × (sum_of s.from offset ≡ Ok start) ×
    (s.upto ≤ start)

-- what is opened of some branches: nothing if they all lead nowhere, else all of them
abbrev pub AreOpened : Source → List trie.Branch → Option Branches → Type 0
AreOpened s bs None = lead_nowhere s.upto bs ≡ true
AreOpened s bs (Some b) = (bs ≡ branches_in s.bytes.now s.from (Some b)) × (lead_nowhere s.upto bs ≡ false)

-- the same of the list whose count is at a place
abbrev pub OpensList : Source → ℕ → Option Branches → Type 0
OpensList s place found = (bs : List trie.Branch) × (children_at s.bytes.now s.from place ≡ Ok bs) × AreOpened s bs found

-- the same of the node at a start
abbrev pub OpensNode : Source → ℕ → Option ExportInfo × Option Branches → Type 0
OpensNode s start read = (bs : List trie.Branch) × (node_in s start ≡ Ok (record { own = info_in read.0; branches = bs })) × AreOpened s bs read.1
