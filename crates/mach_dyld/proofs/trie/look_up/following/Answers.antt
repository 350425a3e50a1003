use Rattle.mach_dyld.proofs.Beginnings.{if_begins, if_not}
use Rattle.mach_dyld.proofs.trie.look_up.following.Goals as goal

pub returns-clause-some : goal.returns-clause-some
returns-clause-some c = if_begins c.args.rest.now c.args.label.now c.strip_prefix.result c.strip_prefix.ensures.cases

pub returns-clause-none : goal.returns-clause-none
returns-clause-none c = if_not c.args.rest.now c.args.label.now c.strip_prefix.result c.strip_prefix.ensures.cases
