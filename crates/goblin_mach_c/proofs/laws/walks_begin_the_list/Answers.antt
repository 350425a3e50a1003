use Rattle.goblin_mach_c.proofs.WalkedLists.{given_begins_list}
use Rattle.goblin_mach_c.proofs.laws.walks_begin_the_list.Goals as goal

pub returns : goal.returns
returns c = given_begins_list
