use Rattle.std.proofs.Common.{map, take}
use Rattle.mach_resolve.specs.Opened.{given_view}
use Rattle.goblin_mach_c.specs.GivenFiles.{AreGiven}
use Rattle.goblin_mach_c.proofs.given_files.all_given.Given as goal

-- the first ones are given
abbrev pub invariant-loop-number : goal.invariant-loop-number
invariant-loop-number g l = AreGiven l.bytes (take l.number l.files) (map given_view l.all.items)
