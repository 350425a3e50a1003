use Rattle.std.proofs.Common.{[], ℕ, List}
use Rattle.mach_dyld.specs.Exports.{entries}
use Rattle.mach_dyld.specs.TrieRange.{TrieRange}
use Rattle.mach_dyld.specs.Walks.{HasGiven, work_left}
use Rattle.tests_callers.proofs.tests.dyld.gather.Given as goal

abbrev pub invariant-exports : goal.invariant-exports
invariant-exports l = (t : TrieRange) (libs : List (List ℕ)) → HasGiven t libs [] l.fn.walk → HasGiven t libs (entries l.found.items) l.walk

abbrev pub decreases-exports : goal.decreases-exports
decreases-exports l = work_left l.walk
