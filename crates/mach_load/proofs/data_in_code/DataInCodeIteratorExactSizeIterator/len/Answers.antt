use Rattle.std.proofs.Common.{◌∙◌, sym}
use Rattle.mach_base.proofs.ItemLists.{length-items_from}
use Rattle.mach_load.specs.DataInCode.{data_in_code_item}
use Rattle.mach_load.proofs.data_in_code.DataInCodeIteratorExactSizeIterator.len.Goals as goal

pub returns-clause-value : goal.returns-clause-value
returns-clause-value c =
    let it = c.args.self.now in
    c.saturating_sub.ensures ∙ sym (length-items_from (data_in_code_item it.le it.bytes.now it.start) it.index _)
