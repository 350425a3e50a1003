-- What was read of a trie, as contracts see it: branches, nodes, and the source that they are read from.
use Rattle.std.specs.Prelude.{◌≡◌, ◌==◌, if◌then◌else◌, ℕ, List, [], ◌∷◌, Option, Some, None, option_map, Result, Ok, Err}
use Rattle.mach_base.specs.Fault.{Fault}
use Rattle.mach_base.specs.Text.{texts}
use Rattle.mach_dyld.specs.Trie as trie
use Rattle.mach_dyld.specs.Trie.{Info, Node, Trie}
use Rattle.mach_dyld.specs.Nodes.{branches_at, own_at, inner_at, terminal_at, node_at, trie_of}
use Rattle.mach_dyld.specs.TrieFault.{TrieFault}
use Rattle.mach_dyld.specs.TrieRange.{TrieRange}
use Rattle.mach_dyld.specs.Exports.{info_of}
use Rattle.mach_dyld.specs.declared.export_info.ExportInfo.{ExportInfo}
use Rattle.mach_dyld.specs.declared.trie.node.Branch.{Branch}
use Rattle.mach_dyld.specs.declared.trie.node.BranchRun.{BranchRun}
use Rattle.mach_dyld.specs.declared.trie.node.Branches.{Branches}
use Rattle.mach_dyld.specs.declared.trie.walk.Source.{Source}

-- ---- branches

abbrev pub branch_of : Branch → trie.Branch
branch_of b = record { label = b.label.now; start = b.start }

abbrev pub those_read : Result (List trie.Branch) Fault → List trie.Branch
those_read (Ok bs) = bs
those_read (Err f) = []

-- the branches that are left, from the place on
abbrev pub branches_of : List ℕ → ℕ → BranchRun → List trie.Branch
branches_of bytes from b = those_read (branches_at bytes from b.left b.place)

-- all of them can be read
abbrev pub IsReadable : List ℕ → ℕ → BranchRun → Type 0
IsReadable bytes from b = branches_at bytes from b.left b.place ≡ Ok (branches_of bytes from b)

-- the first branch, and those after it
abbrev pub branches_in : List ℕ → ℕ → Option Branches → List trie.Branch
branches_in bytes from None = []
branches_in bytes from (Some b) = branch_of b.first ∷ branches_of bytes from b.following

-- ---- nodes

abbrev pub info_in : Option ExportInfo → Option Info
info_in own = option_map info_of own

-- a node, from its own export and its branches as they were read
abbrev pub node_of : List ℕ → ℕ → Option ExportInfo × BranchRun → Node
node_of bytes from read = record { own = info_in read.0; branches = branches_of bytes from read.1 }

-- the same, with the first branch decoded
abbrev pub node_with_first : List ℕ → ℕ → Option ExportInfo × Option Branches → Node
node_with_first bytes from read = record { own = info_in read.0; branches = branches_in bytes from read.1 }

-- ---- a source

abbrev pub trie_range_of : Source → TrieRange
trie_range_of s = record { bytes = s.bytes.now; from = s.from; upto = s.upto }

abbrev pub source_trie : Source → Trie
source_trie s = trie_of s.bytes.now (texts s.libs.now) s.from s.upto

abbrev pub node_in : Source → ℕ → Result Node Fault
node_in s start = node_at s.bytes.now (texts s.libs.now) s.from start

-- the node after its size
abbrev pub node_after : Source → ℕ → ℕ → Result Node Fault
node_after s size place = if size == 0 then inner_at s.bytes.now s.from place else terminal_at s.bytes.now (texts s.libs.now) s.from size place

abbrev pub own_in : Source → ℕ → ℕ → Result (Info × ℕ) Fault
own_in s size place = own_at s.bytes.now (texts s.libs.now) size place

abbrev pub fault_in : Source → Fault → Type 0
fault_in s f = TrieFault (source_trie s) s.from f
