use Rattle.mach_dyld.proofs.TrieNames.{rules}
use Rattle.mach_dyld.proofs.Spellings.{uleb_at-within}
use Rattle.mach_dyld.proofs.export_info.stub.Goals as goal

pub overflow_add-place : goal.overflow_add-place
overflow_add-place c =
    let within = uleb_at-within c.args.bytes.now c.args.place _ _ c.in_ok-stub_offset.ensures in
    search (within, rules)
