use Rattle.std.proofs.Common.{◌≡◌, ◌-◌, List}
use Rattle.mach_dyld.specs.Trie.{Branch}
use Rattle.mach_dyld.specs.Nodes.{branches_at}
use Rattle.mach_dyld.specs.LookUpState.{Goes}
use Rattle.mach_dyld.specs.Views.{source_trie}
use Rattle.mach_dyld.proofs.BranchSteps.{with_front}
use Rattle.mach_dyld.proofs.trie.look_up.quick_way.Given as goal

abbrev pub invariant-loop : goal.invariant-loop
invariant-loop l = (front : List Branch)
    × (with_front front (branches_at l.source.bytes.now l.source.from (l.count - l.counter) l.place)
    ≡ branches_at l.source.bytes.now l.source.from l.count l.first)
    × Goes (source_trie l.source) l.rest front l.way
