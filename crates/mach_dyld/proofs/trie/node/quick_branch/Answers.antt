use Rattle.mach_dyld.proofs.TrieNames.{◌+◌, ◌^◌, ◌<◌}
use Rattle.mach_dyld.proofs.BranchAgain.{branch_of_parts, sum_fits}
use Rattle.mach_dyld.proofs.trie.node.quick_branch.Goals as goal

pub returns-in-Some : goal.returns-in-Some
returns-in-Some c =
    let fits : c.args.from + c.in_ok-offset.offset < 2 ^ 64 = c.in-Some.ensures.0 in
    rw c.in-Some.ensures.1 (branch_of_parts c.args.bytes.now c.args.from c.args.place c.in_ok-label.label.now c.in_ok-offset.offset c.in_ok-offset.after
    (c.args.from + c.in_ok-offset.offset) c.in_ok-label.ensures.text c.in_ok-offset.ensures.value (sum_fits c.args.from c.in_ok-offset.offset fits))
