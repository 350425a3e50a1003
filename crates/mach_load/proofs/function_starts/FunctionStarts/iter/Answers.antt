use Rattle.mach_load.proofs.StartsRead.{starts_are}
use Rattle.mach_load.proofs.function_starts.FunctionStarts.iter.Goals as goal

pub returns : goal.returns
returns c = let s = c.args.self.now in starts_are s.bytes.now s.end s.start c.args.base
