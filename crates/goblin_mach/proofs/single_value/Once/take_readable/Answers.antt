use Rattle.goblin_mach.proofs.CommandReadings.{put_itself}
use Rattle.goblin_mach.proofs.single_value.Once.take_readable.Goals as goal

pub returns-clause-found : goal.returns-clause-found
returns-clause-found c = record {
  symbols = c.put_readable.ensures;
  name = c.put_readable_text.ensures.kept;
  trie = put_itself _ _ _ c.put_readable-2.ensures;
  binds = put_itself _ _ _ c.put_readable-3.ensures;
}
