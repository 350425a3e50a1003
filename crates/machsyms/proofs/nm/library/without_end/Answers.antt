use Rattle.machsyms.proofs.Ends.{end_cut}
use Rattle.machsyms.proofs.nm.library.without_end.Goals as goal

pub returns : goal.returns
returns c = end_cut c.args.end.now c.args.text.now c.strip_suffix.result c.strip_suffix.ensures.cases
