use Rattle.mach_dyld.proofs.BindCut.{lists_by_stream_lem}
use Rattle.mach_dyld.proofs.laws.binds.lists_by_stream.Goals as goal

pub returns : goal.returns
returns c = lists_by_stream_lem
